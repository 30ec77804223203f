-- A job that a worker takes, and what it makes of the core.
use Rattle.std.proofs.Common.{◌≡◌, ◌∙◌, ◌<◌, ◌==◌, ◌&&◌, ◌||◌, ℕ, not, List, [], ◌∷◌, Bool, true, false, Option, None, Some, IfSome, IsSome, refl, sym, ap, subst, inl, inr, length, find}
use Rattle.std.specs.List.{AllByRecursion}
use Rattle.std.specs.Option.{option_map, option_or}
use Rattle.px_base.specs.declared.ids.JobId.{JobId}
use Rattle.px_base.specs.declared.ids.StorageId.{StorageId}
use Rattle.px_ops.specs.declared.job.Job.{Job}
use Rattle.px_ops.specs.declared.op.Op.TheVariants as op
use Rattle.px_ops.specs.declared.refusal.Refusal.{Refusal}
use Rattle.px_ops.specs.declared.reply.Reply.TheVariants as reply
use Rattle.txmanager.specs.Registry.{Registry}
use Rattle.px_cluster.specs.Book.{Repository}
use Rattle.px_cluster.specs.Core.{Core, OpenPush, is_in_push, job_at, repository, with_repository, with_repository_by}
use Rattle.px_cluster.specs.Ids.{storage_id, storage_number}
use Rattle.px_cluster.specs.Jobs.{is_failed, is_ready, with_job_changed, without_job}
use Rattle.px_cluster.specs.Ops.{no_storage}
use Rattle.px_cluster.specs.Taking.{Drop, Next, PassOver, Take, Taking, as_taken, book_as_taken, dequeue_reply, dequeued, may_be_taken, next_among, next_job, or_later, spent_for, spent_in, taken_told, taking, taking_in}
use Rattle.cluster_form.proofs.Among.{IsAmong, next_is, only_one}
use Rattle.cluster_form.proofs.Lists.{bool, both_left, both_right, same_number, same_self, some_is}
use Rattle.genbook.specs.Books.{Becomes, Books}
use Rattle.replqueue.specs.Queue.{IsGiven, Queued, core_of as jobs_of, is_waiting}
use Rattle.px_core.specs.Known.{IsSourceKnown}
use Rattle.px_core.specs.Parts.{core_with}
use Rattle.px_core.specs.Sound.{IsSound}
use Rattle.px_core.specs.Steps.{IsDone}
use Rattle.px_core.specs.Work.{IsDropped, IsWork, IsWorkOn, dequeue_refusal, work_told}
use Rattle.px_core.specs.declared.work.Work.{Work}
use Rattle.px_core.proofs.JobStorages.{source_is_known, storage_known}
use Rattle.px_core.proofs.Parts.{changed_in}
use Rattle.px_core.proofs.Queues.{queue_in}

-- ---- the next job

-- what becomes of it is what the rule says of it
next_taking : (core : Core) (target : ℕ) (jobs : List Job) (next : Next)
    → next_among core target jobs ≡ Some next → taking core target next.job ≡ next.taking
next_taking core target [] next is = absurd (let z : None ≡ Some next = is in cc)
next_taking core target (job ∷ jobs) next is =
    by (taking core target job) refl is (λ later. next_taking core target jobs next later)
  where
    by : (how : Taking) → taking core target job ≡ how
        → or_later job how (next_among core target jobs) ≡ Some next
        → (next_among core target jobs ≡ Some next → taking core target next.job ≡ next.taking)
        → taking core target next.job ≡ next.taking
    by PassOver so is rest = rest is
    by Drop so is rest = subst (λ (n : Next). taking core target n.job ≡ n.taking)
        (some_is (record { job = job; taking = Drop }) next is) so
    by (Take source) so is rest = subst (λ (n : Next). taking core target n.job ≡ n.taking)
        (some_is (record { job = job; taking = Take source }) next is) so

-- where it is taken, it may be, and its repository says so
pub record IsNext (core : Core) (target : ℕ) (job : Job) (source : Option ℕ) : Type 0 where
  pub target_is : job.target.0 ≡ target
  pub waits : is_waiting job.state ≡ true
  pub takes : taking_in core (repository core job.repo.0) job ≡ Take source

module _ (core : Core) (target : ℕ) (job : Job) (source : Option ℕ)
    (next : next_job core target ≡ Some (record { job = job; taking = Take source })) where
  abbrev is_of : Bool
  is_of = job.target.0 == target

  abbrev waits : Bool
  waits = is_ready job.state || is_failed job.state

  abbrev outside : Bool
  outside = not (is_in_push core job.repo.0 target)

  pub next_job_is : IsNext core target job source
  next_job_is =
      let so = next_taking core target core.jobs
      (record { job = job; taking = Take source }) next in
      elim (bool (may_be_taken core target job)) [
        | inl holds ↦ (let both : (is_of && waits) ≡ true =
            both_left (is_of && waits) outside holds in
            record {
              target_is = same_number job.target.0 target (both_left is_of waits both);
              waits = both_right is_of waits both;
              takes = rw holds at so;
            })
        | inr fails ↦ absurd (let z : PassOver ≡ Take source = rw fails at so in cc)
      ]

  -- its repository is on record
  pub next_there : IsSome (repository core job.repo.0)
  next_there = by (repository core job.repo.0) next_job_is.takes
    where
      by : (there : Option Repository) → taking_in core there job ≡ Take source → IsSome there
      by None is = absurd (let z : PassOver ≡ Take source = is in cc)
      by (Some book) is = refl

-- ---- no cause before, and none after

first_none : (one other : Option Refusal) → option_or one other ≡ None → one ≡ None
first_none None other none = refl
first_none (Some why) other none = absurd (let z : Some why ≡ None = none in cc)

second_none : (one other : Option Refusal) → option_or one other ≡ None → other ≡ None
second_none None other none = none
second_none (Some why) other none = absurd (let z : Some why ≡ None = none in cc)

-- ---- a job that is taken

pub work_is : (core : Core) (target : ℕ) (job : Job) (source : Option StorageId) (work : Work)
    → no_storage core target ≡ None
    → next_job core target ≡ Some (record { job = job; taking = Take (storage_number source) })
    → spent_in (repository core job.repo.0) ≡ None → IsWorkOn core job source work
    → IsWork core target work
work_is core target job source work known next left on =
    let is = next_job_is core target job (storage_number source) next in
    let accepted : dequeue_refusal core target ≡ None = rw known (rw next left) in
    record {
      accepted = accepted;
      next = next ∙ λ i. Some (record {
        job = sym on.job_is i;
        taking = Take (storage_number (sym on.source_is i));
      });
      target_is = ap (λ (j : Job). j.target.0) on.job_is ∙ is.target_is;
      book = on.book;
      there = ap (λ (j : Job). repository core j.repo.0) on.job_is ∙ on.there;
      generation = on.generation;
      lease = on.lease;
    }

module _ (core : Core) (target : ℕ) (work : Work) (is : IsWork core target work) where
  abbrev from : Option ℕ
  from = storage_number work.source

  comes : IsNext core target work.job from
  comes = next_job_is core target work.job from is.next

  -- it waits
  pub work_waits : is_waiting work.job.state ≡ true
  work_waits = comes.waits

  -- its target and its source are known
  pub target_known : work.job.target.0 < length core.storages
  target_known = subst (λ n. n < length core.storages) (sym is.target_is)
      (storage_known core target (first_none (no_storage core target) _ is.accepted))

  pub source_known : IsSound core → IsSourceKnown core.storages work.source
  source_known sound = by work.source (source_is_known core sound work.job.repo.0 is.book is.there
      work.job work.job.kind from (subst (λ (there : Option Repository).
      taking_in core there work.job ≡ Take from) is.there comes.takes))
    where
      by : (source : Option StorageId)
          → IfSome (storage_number source) (λ n. n < length core.storages)
          → IsSourceKnown core.storages source
      by None known = known
      by (Some source) known = known

  -- a lease is left
  pub lease_left : spent_in (Some is.book) ≡ None
  lease_left =
      let spent = second_none (no_storage core target) (spent_for core (next_job core target))
      is.accepted in
      let here : spent_in (repository core work.job.repo.0) ≡ None = rw is.next at spent in
      subst (λ (there : Option Repository). spent_in there ≡ None) is.there here

  -- it is in the queue under its number
  pub in_queue : IsSound core → job_at core work.job.number.0 ≡ Some work.job
  in_queue sound = found core.jobs (only_one work.job core.jobs sound.form.jobs.order among) among
    where
      among : IsAmong work.job core.jobs
      among = next_is core target core.jobs _ is.next

      found : (jobs : List Job)
          → AllByRecursion
          (λ (other : Job). other.number.0 ≡ work.job.number.0 → other ≡ work.job) jobs
          → IsAmong work.job jobs
          → find (λ (job : Job). job.number.0 == work.job.number.0) jobs ≡ Some work.job
      found [] all among = absurd among
      found (job ∷ jobs) all among = elim (bool (job.number.0 == work.job.number.0)) [
        | inl holds ↦ (rw holds (ap (λ (j : Job). Some j)
            (all.0 (same_number job.number.0 work.job.number.0 holds))))
        | inr fails ↦ (rw fails (found jobs all.1 (later among fails)))
      ]
        where
          later : IsAmong work.job (job ∷ jobs)
              → (job.number.0 == work.job.number.0) ≡ false → IsAmong work.job jobs
          later (inl same) other = absurd (let self = same_self work.job.number.0 in
              let z : true ≡ false = sym self
              ∙ ap (λ (j : Job). j.number.0 == work.job.number.0) (sym same) ∙ other in cc)
          later (inr among_) other = among_

  -- what the book gives for it
  pub is_given : IsGiven is.book from work.source work.generation work.lease
  is_given = record {
    source_is = again work.source;
    newest_is = is.generation;
    lease_is = is.lease;
  }
    where
      again : (source : Option StorageId) → option_map storage_id (storage_number source) ≡ source
      again None = refl
      again (Some source) = refl

  -- it is told as the rule has it
  pub told_is : (now : ℕ)
      → work_told core work ≡ taken_told core (as_taken is.book from now work.job)
  told_is now = λ i. work_told core (record {
    job = work.job;
    source = sym is_given.source_is i;
    generation = sym is_given.newest_is i;
    lease = sym is_given.lease_is i;
  })

-- ---- what is left of the core, and answered

module _ (books : Books) (up : List Bool) (votes : Registry) (last : ℕ) (pushes : List OpenPush)
    (reads : List ℕ) (queue made : Queued) (target : StorageId) (now : ℕ) where
  abbrev before : Core
  before = core_with books up votes last pushes reads queue

  -- there is no job
  pub nothing_done : dequeue_refusal before target.0 ≡ None → next_job before target.0 ≡ None
      → IsDone before (op.Dequeue target now) reply.NoJob before
  nothing_done none next = record {
    accepted = none;
    answers = rw next refl;
    leads = rw next refl;
  }

  -- the job is dropped
  pub dropped_done : (number : JobId) → dequeue_refusal before target.0 ≡ None
      → IsDropped before target.0 number → jobs_of made ≡ without_job number (jobs_of queue)
      → IsDone before (op.Dequeue target now) (reply.Dropped number)
      (core_with books up votes last pushes reads made)
  dropped_done number none is gone = record {
    accepted = none;
    answers = answer;
    leads = queue_in books up votes last pushes reads queue made
        (without_job number (jobs_of queue)).jobs queue.last gone ∙ left;
  }
    where
      answer : reply.Dropped number ≡ dequeue_reply before (next_job before target.0) now
      answer = rw is.next (ap reply.Dropped (sym is.number_is))

      left : without_job number before ≡ dequeued (next_job before target.0) now before
      left = rw is.next (ap (λ (n : JobId). without_job n before) (sym is.number_is))

  -- the job is taken
  module _ (new : Books) (work : Work) (is : IsWork before target.0 work) where
    abbrev change : Repository → Repository
    change = book_as_taken work.job work.job.kind

    abbrev taken : Job → Job
    taken = as_taken is.book (storage_number work.source) now

    take_left : with_job_changed work.job.number taken
        (with_repository work.job.repo.0 (change is.book) before)
        ≡ dequeued (next_job before target.0) now before
    take_left = rw is.next (rw is.there refl)

    take_answer : reply.Taken (work_told before work)
        ≡ dequeue_reply before (next_job before target.0) now
    take_answer = ap reply.Taken (told_is before target.0 work is now)
        ∙ rw is.next (rw is.there refl)

    pub take_done : Becomes work.job.repo.0 change books new
        → jobs_of made ≡ with_job_changed work.job.number taken (jobs_of queue)
        → IsDone before (op.Dequeue target now) (reply.Taken (work_told before work))
        (core_with new up votes last pushes reads made)
    take_done becomes makes =
        let changed : core_with new up votes last pushes reads queue
        ≡ with_repository work.job.repo.0 (change is.book) before =
        changed_in books new up votes last pushes reads queue work.job.repo.0 change becomes
        ∙ ap (λ (there : Option Repository).
        with_repository_by there work.job.repo.0 change before) is.there in
        let jobs = (with_job_changed work.job.number taken (jobs_of queue)).jobs in
        record {
          accepted = is.accepted;
          answers = take_answer;
          leads = queue_in new up votes last pushes reads queue made jobs queue.last makes
              ∙ ap (λ (c : Core). record c { jobs = jobs; last_job = queue.last }) changed
              ∙ take_left;
        }
