-- The next job of a storage: what it is, and what it is taken for.
use Rattle.std.proofs.Common.{◌≡◌, ◌==◌, ◌&&◌, ◌||◌, ℕ, not, List, [], ◌∷◌, Bool, true, false, Option, None, Some, refl, sym, subst, inl, inr}
use Rattle.px_ops.specs.declared.job.Job.{Job}
use Rattle.px_ops.specs.declared.job.JobKind.TheVariants.{Delete, Update}
use Rattle.px_ops.specs.declared.job.JobState.{JobState}
use Rattle.px_ops.specs.declared.job.JobState.TheVariants as queued
use Rattle.px_cluster.specs.Book.{Repository, booking_on, is_assigned, is_newest_on}
use Rattle.px_cluster.specs.Core.{Core, OpenPush as CorePush, is_in_push, is_member_of, repository, voting}
use Rattle.px_cluster.specs.Ids.{storage_number}
use Rattle.px_cluster.specs.Jobs.{are_assigned_newest, is_failed, is_ready, sources_for}
use Rattle.px_cluster.specs.Members.{kept_or_first}
use Rattle.px_cluster.specs.Taking.{Drop, Next, PassOver, Take, Taking, may_be_taken, next_among, or_later, take_from, taking, taking_by, taking_in}
use Rattle.replica_invariant.specs.Booking.{At}
use Rattle.replica_invariant.specs.State.{OpenPush, Waiting}
use Rattle.cluster_form.specs.Books.{IsDense}
use Rattle.cluster_form.proofs.Lists.{bool, both_left, both_right, same_number, some_is}
use Rattle.cluster_form.proofs.OneOf.{kept_one}
use Rattle.cluster_history.specs.Seen.{seen_booking, seen_push, seen_state, seen_turn, vote_or_none}
use Rattle.job_steps.proofs.Newest.{source_newest}
use Rattle.job_steps.proofs.Tests.{neither, not_false, not_true}

-- ---- what becomes of the next job

-- the next job is taken as it says
pub next_taking : (core : Core) (target : ℕ) (jobs : List Job) (next : Next)
    → next_among core target jobs ≡ Some next → taking core target next.job ≡ next.taking
next_taking core target [] next is = absurd (let z : None ≡ Some next = is in cc)
next_taking core target (job ∷ jobs) next is =
    by (taking core target job) refl is (λ later. next_taking core target jobs next later)
  where
    by : (how : Taking) → taking core target job ≡ how
        → or_later job how (next_among core target jobs) ≡ Some next
        → (next_among core target jobs ≡ Some next → taking core target next.job ≡ next.taking)
        → taking core target next.job ≡ next.taking
    by PassOver so is rest = rest is
    by Drop so is rest = subst (λ (n : Next). taking core target n.job ≡ n.taking)
        (some_is (record { job = job; taking = Drop }) next is) so
    by (Take source) so is rest = subst (λ (n : Next). taking core target n.job ≡ n.taking)
        (some_is (record { job = job; taking = Take source }) next is) so

-- one that is taken may be
pub may_take : (core : Core) (target : ℕ) (job : Job) (source : Option ℕ)
    → taking core target job ≡ Take source → (may_be_taken core target job ≡ true)
    × (taking_in core (repository core job.repo.0) job ≡ Take source)
may_take core target job source is = elim (bool (may_be_taken core target job)) [
  | inl holds ↦ (holds, (rw holds at is))
  | inr fails ↦ absurd (let z : PassOver ≡ Take source = rw fails at is in cc)
]

-- ---- a job that may be taken

module _ (core : Core) (target : ℕ) (job : Job) (may : may_be_taken core target job ≡ true) where
  abbrev is_open : Bool
  is_open = is_ready job.state || is_failed job.state

  -- it is of the target, and open
  first_two : ((job.target.0 == target) && is_open) ≡ true
  first_two = both_left ((job.target.0 == target) && is_open)
      (not (is_in_push core job.repo.0 target)) may

  target_is : job.target.0 ≡ target
  target_is = same_number job.target.0 target (both_left (job.target.0 == target) is_open first_two)

  -- its target is no member of the open push
  pub outside : is_in_push core job.repo.0 job.target.0 ≡ false
  outside = subst (λ n. is_in_push core job.repo.0 n ≡ false) (sym target_is)
      (not_true (is_in_push core job.repo.0 target)
      (both_right ((job.target.0 == target) && is_open)
      (not (is_in_push core job.repo.0 target)) may))

  -- what is ready or failed is seen to wait
  waits_as : (state : JobState) (lease : ℕ) → (is_ready state || is_failed state) ≡ true
      → seen_state state lease ≡ Waiting
  waits_as queued.Ready lease is = refl
  waits_as queued.InProgress lease is = absurd (let z : false ≡ true = is in cc)
  waits_as queued.Completed lease is = absurd (let z : false ≡ true = is in cc)
  waits_as queued.Cancelled lease is = absurd (let z : false ≡ true = is in cc)
  waits_as queued.Failed lease is = refl
  waits_as queued.Dead lease is = absurd (let z : false ≡ true = is in cc)

  -- so it waits
  pub waits : seen_state job.state job.lease ≡ Waiting
  waits = waits_as job.state job.lease (both_right (job.target.0 == target) is_open first_two)

-- who is no member of the push is not seen as one
pub seen_outside : (core : Core) (there : Option CorePush) (storage : ℕ)
    → is_member_of there storage ≡ false → (push : OpenPush) → seen_turn core there ≡ Some push
    → push.members storage ≡ false
seen_outside core None storage fails push is = absurd (let z : None ≡ Some push = is in cc)
seen_outside core (Some open_) storage fails push is =
    subst (λ (p : OpenPush). p.members storage ≡ false)
    (some_is (seen_push open_ (vote_or_none (voting core open_.tx))) push is) fails

-- ---- what it is taken for

-- an update: its source is at the newest generation, and its target is not
pub record IsUpdate (book : Repository) (target : ℕ) (source : Option ℕ) : Type 0 where
  pub from : ℕ
  pub source_ : source ≡ Some from
  pub current : seen_booking (booking_on book from) ≡ At book.newest
  pub behind : is_newest_on book target ≡ false

-- a delete: its target is not assigned, and each assigned replica is at the newest generation
pub record IsDelete (book : Repository) (target : ℕ) (source : Option ℕ) : Type 0 where
  pub source_ : source ≡ None
  pub unassigned : is_assigned book target ≡ false
  pub newest : are_assigned_newest book ≡ true

-- from a source that is found
from_source : (core : Core) (book : Repository) → IsDense core.storages book → (target : ℕ)
    (kept found source : Option ℕ) → kept_or_first (sources_for core book target) kept ≡ found
    → is_newest_on book target ≡ false → take_from found ≡ Take source → IsUpdate book target source
from_source core book dense target kept None source at behind is =
    absurd (let z : PassOver ≡ Take source = is in cc)
from_source core book dense target kept (Some from) source at behind is = record {
  from = from;
  source_ = (let z : Take (Some from) ≡ Take source = is in cc);
  current = source_newest core book dense target from
      (kept_one (sources_for core book target) kept from at);
  behind = behind;
}

-- an update that is taken is one
pub update_is : (core : Core) (book : Repository) → IsDense core.storages book → (job : Job)
    (source : Option ℕ) → taking_by core book job Update ≡ Take source
    → IsUpdate book job.target.0 source
update_is core book dense job source is =
    elim (bool (not (is_assigned book job.target.0) || is_newest_on book job.target.0)) [
      | inl holds ↦ absurd (let z : Drop ≡ Take source = rw holds at is in cc)
      | inr fails ↦ from_source core book dense job.target.0 (storage_number job.source)
          (kept_or_first (sources_for core book job.target.0) (storage_number job.source)) source
          refl
          (neither (not (is_assigned book job.target.0)) (is_newest_on book job.target.0) fails).1
          (rw fails at is)
    ]

-- and a delete that is taken
pub delete_is : (core : Core) (book : Repository) (job : Job) (source : Option ℕ)
    → taking_by core book job Delete ≡ Take source → IsDelete book job.target.0 source
delete_is core book job source is =
    elim (bool (is_assigned book job.target.0 || not (are_assigned_newest book))) [
      | inl holds ↦ absurd (let z : Drop ≡ Take source = rw holds at is in cc)
      | inr fails ↦ (let both = neither (is_assigned book job.target.0)
          (not (are_assigned_newest book)) fails in record {
            source_ = (let z : Take None ≡ Take source = rw fails at is in cc);
            unassigned = both.0;
            newest = not_false (are_assigned_newest book) both.1;
          })
    ]
