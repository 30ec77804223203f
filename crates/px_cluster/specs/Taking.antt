-- How a worker takes the next job of a storage.
use Rattle.std.specs.Prelude.{ℕ, ◌+◌, ◌-◌, ◌==◌, ◌&&◌, ◌||◌, not, Bool, if◌then◌else◌, List, [], ◌∷◌, Option, None, Some}
use Rattle.std.specs.Option.{option_map}
use Rattle.px_base.specs.declared.ids.StorageId.{StorageId}
use Rattle.px_ops.specs.declared.booking.Booking.TheVariants.{Absent}
use Rattle.px_ops.specs.declared.job.Job.{Job}
use Rattle.px_ops.specs.declared.job.JobKind.{JobKind}
use Rattle.px_ops.specs.declared.job.JobKind.TheVariants.{Update, Delete}
use Rattle.px_ops.specs.declared.job.JobState.TheVariants.{InProgress}
use Rattle.px_ops.specs.declared.job.TakenJob.{TakenJob}
use Rattle.px_ops.specs.declared.refusal.Refusal.{Refusal}
use Rattle.px_ops.specs.declared.reply.Reply.{Reply}
use Rattle.px_ops.specs.declared.reply.Reply.TheVariants as reply
use Rattle.px_cluster.specs.Book.{Repository, booked, is_assigned, is_newest_on, with_lease_for, with_replica_on}
use Rattle.px_cluster.specs.Core.{Core, is_in_push, name_of, repository, with_repository}
use Rattle.px_cluster.specs.Ids.{gen, storage_id, storage_number}
use Rattle.px_cluster.specs.Jobs.{are_assigned_newest, is_failed, is_ready, sources_for, with_job_changed, without_job}
use Rattle.px_cluster.specs.Members.{kept_or_first}
use Rattle.px_cluster.specs.Refusals.{leases_spent}

-- what becomes of a job that may be taken: it has nothing to do any more and is dropped, it is passed
-- over, or it is taken, an update from a source
pub data Taking : Type 0 where
  Drop : Taking
  PassOver : Taking
  Take : Option ℕ → Taking

-- an update without a source is passed over
abbrev pub take_from : Option ℕ → Taking
take_from None = PassOver
take_from (Some source) = Take (Some source)

-- An update has nothing to do where its target is unassigned or at the newest generation. Its source
-- is the former one, where that still is one, and else that of the least number. A delete has nothing
-- to do where its target is assigned, or some assigned replica is not at the newest generation.
abbrev pub taking_by : Core → Repository → Job → JobKind → Taking
taking_by core book job Update =
    if not (is_assigned book job.target.0) || is_newest_on book job.target.0 then Drop
    else take_from
    (kept_or_first (sources_for core book job.target.0) (storage_number job.source))
taking_by core book job Delete =
    if is_assigned book job.target.0 || not (are_assigned_newest book) then Drop else Take None

abbrev pub taking_in : Core → Option Repository → Job → Taking
taking_in core None job = PassOver
taking_in core (Some book) job = taking_by core book job job.kind

-- the job is of this target, ready or failed, and the target is no member of the open push
abbrev pub may_be_taken : Core → ℕ → Job → Bool
may_be_taken core target job =
    (job.target.0 == target) && (is_ready job.state || is_failed job.state)
    && not (is_in_push core job.repo.0 target)

abbrev pub taking : Core → ℕ → Job → Taking
taking core target job =
    if may_be_taken core target job then taking_in core (repository core job.repo.0) job
    else PassOver

-- the next job of a storage, with what becomes of it
pub record Next : Type 0 where
  pub job : Job
  pub taking : Taking

abbrev pub or_later : Job → Taking → Option Next → Option Next
or_later job PassOver later = later
or_later job Drop later = Some (record { job = job; taking = Drop })
or_later job (Take source) later = Some (record { job = job; taking = Take source })

-- the first job by number that is not passed over
abbrev pub next_among : Core → ℕ → List Job → Option Next
next_among core target [] = None
next_among core target (job ∷ jobs) =
    or_later job (taking core target job) (next_among core target jobs)

abbrev pub next_job : Core → ℕ → Option Next
next_job core target = next_among core target core.jobs

-- ---- the job that would be taken can draw no lease

abbrev pub spent_in : Option Repository → Option Refusal
spent_in None = None
spent_in (Some book) = leases_spent book.last

abbrev pub spent_by : Core → Job → Taking → Option Refusal
spent_by core job Drop = None
spent_by core job PassOver = None
spent_by core job (Take source) = spent_in (repository core job.repo.0)

abbrev pub spent_for : Core → Option Next → Option Refusal
spent_for core None = None
spent_for core (Some next) = spent_by core next.job next.taking

-- ---- what is left

-- the job is in progress under the new lease, for the newest generation, with one attempt less
abbrev pub as_taken : Repository → Option ℕ → ℕ → Job → Job
as_taken book source now job = record job {
  source = option_map storage_id source;
  generation = gen book.newest;
  attempts = job.attempts - 1;
  state = InProgress;
  beat = now;
  lease = book.last + 1;
}

-- a lease is drawn for the target; a delete books it Absent in the same step
abbrev pub book_as_taken : Job → JobKind → Repository → Repository
book_as_taken job Update book = with_lease_for job.target.0 book
book_as_taken job Delete book =
    with_replica_on job.target.0 (booked Absent) (with_lease_for job.target.0 book)

abbrev pub taken_in : Option Repository → Job → Option ℕ → ℕ → Core → Core
taken_in None job source now core = core
taken_in (Some book) job source now core =
    with_job_changed job.number (as_taken book source now)
    (with_repository job.repo.0 (book_as_taken job job.kind book) core)

abbrev pub dequeued_by : Job → Taking → ℕ → Core → Core
dequeued_by job PassOver now core = core
dequeued_by job Drop now core = without_job job.number core
dequeued_by job (Take source) now core =
    taken_in (repository core job.repo.0) job source now core

abbrev pub dequeued : Option Next → ℕ → Core → Core
dequeued None now core = core
dequeued (Some next) now core = dequeued_by next.job next.taking now core

-- ---- what is answered

-- the job as it was taken, with names
abbrev pub taken_told : Core → Job → TakenJob
taken_told core job = record {
  job = job.number;
  kind = job.kind;
  repo = job.repo;
  target = name_of core job.target.0;
  source = option_map (λ (id : StorageId). name_of core id.0) job.source;
  generation = job.generation;
  lease = job.lease;
}

abbrev pub taken_reply : Core → Option Repository → Job → Option ℕ → ℕ → Reply
taken_reply core None job source now = reply.NoJob
taken_reply core (Some book) job source now =
    reply.Taken (taken_told core (as_taken book source now job))

abbrev pub reply_by : Core → Job → Taking → ℕ → Reply
reply_by core job PassOver now = reply.NoJob
reply_by core job Drop now = reply.Dropped job.number
reply_by core job (Take source) now =
    taken_reply core (repository core job.repo.0) job source now

abbrev pub dequeue_reply : Core → Option Next → ℕ → Reply
dequeue_reply core None now = reply.NoJob
dequeue_reply core (Some next) now = reply_by core next.job next.taking now
