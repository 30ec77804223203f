-- What the reconciler plans: each job is one that its target may have.
use Rattle.std.proofs.Common.{◌≡◌, ◌+◌, ◌-◌, ◌^◌, ◌&&◌, ◌||◌, ◌<◌, ◌≤◌, ℕ, not, List, [], ◌∷◌, ◌++◌, Bool, true, false, Option, None, Some, refl, sym, ◌∙◌, ap, subst, inl, inr, filter, flat_map, length, take, arith}
use Rattle.std.specs.List.{AllByRecursion}
use Rattle.px_ops.specs.declared.booking.Booking.{Booking as BookedSo}
use Rattle.px_ops.specs.declared.booking.Booking.TheVariants as booked
use Rattle.px_ops.specs.declared.job.Job.{Job}
use Rattle.px_ops.specs.declared.job.JobKind.{JobKind}
use Rattle.px_ops.specs.declared.job.JobKind.TheVariants.{Update, Delete}
use Rattle.px_cluster.specs.Book.{Replica, Repository, booking_in, is_absent, is_assigned_in, is_newest}
use Rattle.px_cluster.specs.Core.{Core, is_in_push, is_up, repository}
use Rattle.px_cluster.specs.Ids.{repo_number}
use Rattle.px_cluster.specs.Jobs.{are_assigned_newest, is_dead, is_locked, sources_for}
use Rattle.px_cluster.specs.Numbers.{first_of}
use Rattle.px_cluster.specs.Plan.{all_planned, is_replaced_by, new_job, plan, planned_at, planned_for, update_from, wanted_at}
use Rattle.replica_invariant.specs.Booking.{Absent, At}
use Rattle.replica_invariant.specs.Invariant.{Invariant}
use Rattle.replica_invariant.specs.Jobs.{CanPlan}
use Rattle.replica_invariant.specs.ManyJobs.{MayHave}
use Rattle.replica_invariant.specs.State.{State}
use Rattle.push_events.proofs.Values.{three}
use Rattle.job_events.proofs.ManyJobs.{planned_jobs_fit}
use Rattle.cluster_form.specs.Books.{IsDense}
use Rattle.cluster_form.proofs.JobLists.{all_numbered}
use Rattle.cluster_form.proofs.Lists.{all_both, all_filter, all_got, choose, some_is}
use Rattle.cluster_form.proofs.OneOf.{all_taken, first_one}
use Rattle.cluster_form.proofs.PlannedJobs.{all_of_books}
use Rattle.cluster_history.specs.Goes.{IsSound}
use Rattle.cluster_history.specs.History.{Whole}
use Rattle.cluster_history.specs.Seen.{seen_booking, seen_job, state_of}
use Rattle.job_steps.specs.Jobs.{ReconcileGoesOn}
use Rattle.job_steps.proofs.Newest.{IsFound, each_on, source_newest}
use Rattle.job_steps.proofs.OnQueue.{Fits, all_fit, has_invariant, queue_goes}
use Rattle.job_steps.proofs.Tests.{neither}

-- ---- numbers and bookings

-- what is not beyond is below
below : (a b : ℕ) → (b ≤ a → ⊥) → a < b
below a b not_beyond = elim (three a b) [
  | inl less ↦ less
  | inr more ↦ elim more [
    | inl same ↦ absurd (not_beyond (omega (arith, same)))
    | inr above ↦ absurd (not_beyond (omega (arith, above)))
  ]
]

-- what is not booked absent is not seen so
present : (booking : BookedSo) → is_absent booking ≡ false → seen_booking booking ≡ Absent → ⊥
present booked.Absent fails is = let z : true ≡ false = fails in cc
present (booked.At held) fails is = cc
present (booked.Doubt lease was due) fails is = cc

-- ---- a job of one repository

module _ (whole : Whole) (sound : IsSound whole) (repo : ℕ) (book : Repository)
    (known : repository whole.cluster.core repo ≡ Some book) where
  abbrev core : Core
  core = whole.cluster.core

  abbrev st : State
  st = state_of whole repo book

  invariant : Invariant st
  invariant = has_invariant whole sound repo book known

  dense : IsDense core.storages book
  dense =
      all_got (IsDense core.storages) core.repositories repo book sound.form.core.books.dense known

  abbrev new : JobKind → Option ℕ → ℕ → Job
  new kind source storage = new_job kind repo book storage source

  -- a new job that may be planned fits
  new_fits : (kind : JobKind) (source : Option ℕ) (storage : ℕ)
      → CanPlan st storage (seen_job (new kind source storage))
      → Fits whole (new kind source storage)
  new_fits kind source storage can other is = subst
      (λ (b : Repository). MayHave (state_of whole repo b) storage
      (seen_job (new kind source storage)))
      (some_is book other (sym known ∙ is))
      (planned_jobs_fit st storage (seen_job (new kind source storage)) invariant can)

  module _ (replica : Replica) (found : IsFound book.replicas replica) where
    abbrev storage : ℕ
    storage = replica.storage

    -- an update from a source
    update_fits : replica.assigned ≡ true → (source : Option ℕ)
        → first_of (sources_for core book storage) ≡ source
        → AllByRecursion (Fits whole) (update_from source repo book storage)
    update_fits assigned None is = tt
    update_fits assigned (Some source) is = (
      new_fits Update (Some source) storage (record {
        known = below storage st.admitted (λ beyond. (
            let none : is_assigned_in (Some replica) ≡ false =
            ap is_assigned_in (sym found) ∙ invariant.shape.known storage beyond in
            let z : true ≡ false = sym assigned ∙ none in cc));
        some = (
          source,
          λ absent. (
              let current = source_newest core book dense storage source
              (first_one (sources_for core book storage) source is) in
              let z : At book.newest ≡ Absent = sym current ∙ absent in cc),
        );
        waits = refl;
        generation = refl;
        target_ = λ delete. absurd (let z : true ≡ false = delete in cc);
      }),
      tt,
    )

    -- a delete
    delete_fits : is_absent replica.booking ≡ false
        → AllByRecursion (Fits whole) (new Delete None storage ∷ [])
    delete_fits fails = (
      new_fits Delete None storage (record {
        known = below storage st.admitted
            (λ beyond. there (invariant.shape.fresh storage beyond).booking);
        some = (storage, there);
        waits = refl;
        generation = refl;
        target_ = λ delete. there;
      }),
      tt,
    )
      where
        there : (st.replica storage).booking ≡ Absent → ⊥
        there absent = present replica.booking fails
            (ap (λ (o : Option Replica). seen_booking (booking_in o)) (sym found) ∙ absent)

    -- what is planned for the replica
    planned_fits : AllByRecursion (Fits whole) (planned_at core repo book replica)
    planned_fits = choose (AllByRecursion (Fits whole))
        (is_up core storage && not (is_locked core repo storage)
        && not (is_in_push core repo storage))
        (wanted_at core repo book replica) []
        (λ free. choose (AllByRecursion (Fits whole)) replica.assigned _ _
        (λ assigned. choose (AllByRecursion (Fits whole)) (is_newest book replica) [] _
        (λ newest. tt)
        (λ behind. update_fits assigned (first_of (sources_for core book storage)) refl))
        (λ unassigned. choose (AllByRecursion (Fits whole))
        (is_absent replica.booking || not (are_assigned_newest book)) [] _ (λ none. tt)
        (λ some. delete_fits (neither (is_absent replica.booking) _ some).0))) (λ taken. tt)

  -- and for all of them
  each_fits : (replicas : List Replica) → AllByRecursion (IsFound book.replicas) replicas
      → AllByRecursion (Fits whole) (flat_map (planned_at core repo book) replicas)
  each_fits [] found = tt
  each_fits (r ∷ rs) found = all_both (Fits whole) (planned_at core repo book r)
      (flat_map (planned_at core repo book) rs) (planned_fits r found.0) (each_fits rs found.1)

  -- in this repository
  pub all_planned_fit : AllByRecursion (Fits whole) (planned_for core repo book)
  all_planned_fit = each_fits book.replicas (each_on core.storages book dense)

-- ---- the plan

-- each job of the plan fits, with its number
plan_fits : (whole : Whole) → IsSound whole → (only : Option ℕ)
    → AllByRecursion (Fits whole) (plan whole.cluster.core only)
plan_fits whole sound only =
    let core = whole.cluster.core in
    all_numbered (Fits whole) (λ job n fits. fits) core.last_job
    (take (2 ^ 64 - 1 - core.last_job) (all_planned core only))
    (all_taken (Fits whole) _ (all_planned core only)
    (all_of_books core (Fits whole) (all_planned_fit whole sound) only))

-- the plan comes, and dead jobs go
pub a_plan_goes_on : ReconcileGoesOn
a_plan_goes_on only whole sound accepted =
    let core = whole.cluster.core in
    let jobs = plan core (repo_number only) in
    let stays : Job → Bool = λ old. not (is_dead old.state && is_replaced_by jobs old) in
    queue_goes whole (filter stays core.jobs ++ jobs) (core.last_job + length jobs)
    (all_both (Fits whole) (filter stays core.jobs) jobs
    (all_filter (Fits whole) stays core.jobs (all_fit whole sound))
    (plan_fits whole sound (repo_number only)))
