-- The queue as contracts see it, and how it is kept.
use Rattle.std.specs.Prelude.{◌≡◌, ◌≤◌, ◌+◌, ◌-◌, ◌&&◌, ◌||◌, ℕ, Bool, true, List, find, Option}
use Rattle.std.specs.List.{AllByRecursion}
use Rattle.std.specs.Option.{option_map}
use Rattle.px_base.specs.declared.ids.Gen.{Gen}
use Rattle.px_base.specs.declared.ids.JobId.{JobId}
use Rattle.px_base.specs.declared.ids.StorageId.{StorageId}
use Rattle.px_ops.specs.declared.job.Job.{Job}
use Rattle.px_ops.specs.declared.job.JobState.{JobState}
use Rattle.px_ops.specs.declared.job.JobState.TheVariants.{InProgress}
use Rattle.px_cluster.specs.Book.{Repository}
use Rattle.px_cluster.specs.Core.{Core, empty}
use Rattle.px_cluster.specs.Ids.{gen, storage_id}
use Rattle.px_cluster.specs.Jobs.{holds_lock, is_dead, is_failed, is_for, is_in_progress, is_ready}
use Rattle.replqueue.specs.declared.mark.Mark.{Mark}
use Rattle.replqueue.specs.declared.lines.By.TheVariants.{Pair, Target}
use Rattle.replqueue.specs.Lines.{line_by}
use Rattle.replqueue.specs.Marks.{AreMarked, has}
use Rattle.replqueue.specs.Rows.{AreAscending}

-- the jobs by number, the last number that was given, and where there is room for a job to be taken
pub record Queued : Type 0 where
  pub jobs : List Job
  pub last : ℕ
  pub room : List Mark

-- a core in which these are the jobs, and nothing else is known
abbrev pub core_of : Queued → Core
core_of queue = record empty { jobs = queue.jobs; last_job = queue.last }

-- ---- what is read

-- the job that holds the lock of a repository and target
abbrev pub held_for : Queued → ℕ → ℕ → Option Job
held_for queue repo target =
    find (λ (job : Job). holds_lock job.state && is_for repo target job) queue.jobs

-- the dead job that is kept of a repository and target
abbrev pub dead_for : Queued → ℕ → ℕ → Option Job
dead_for queue repo target =
    find (λ (job : Job). is_dead job.state && is_for repo target job) queue.jobs

-- ---- how a job is taken

-- ready, or failed with attempts left
abbrev pub is_waiting : JobState → Bool
is_waiting state = is_ready state || is_failed state

-- the job in progress from this source, for this generation and under this lease, with one attempt
-- less
abbrev pub taken : Option StorageId → Gen → ℕ → ℕ → Job → Job
taken source generation now lease job = record job {
  source = source;
  generation = generation;
  attempts = job.attempts - 1;
  state = InProgress;
  beat = now;
  lease = lease;
}

-- this is what the book gives a job that is taken: the source, the newest generation of its
-- repository, and the lease after the last
pub record IsGiven (book : Repository) (from : Option ℕ) (source : Option StorageId) (newest : Gen)
    (next : ℕ) : Type 0 where
  pub source_is : option_map storage_id from ≡ source
  pub newest_is : gen book.newest ≡ newest
  pub lease_is : book.last + 1 ≡ next

-- there is room for a job to be taken
abbrev pub HasRoom : Queued → JobId → Type 0
HasRoom queue job = has queue.room 0 job.0 ≡ true

-- ---- how the queue is kept

-- Each job has a number that was given. It is marked by its repository and target; while it holds
-- the lock, by its target; and while it is in progress, on the one line of those that are. Other
-- marks may be left.
pub record AreKept (jobs : List Job) (number : ℕ) (by_pair by_target at_work : List Mark)
    : Type 0 where
  pub ascend : AreAscending jobs
  pub given : AllByRecursion (λ (job : Job). job.number.0 ≤ number) jobs
  pub pairs : AreMarked (λ (job : Job). true) (line_by Pair) by_pair jobs
  pub targets : AreMarked (λ (job : Job). holds_lock job.state) (line_by Target) by_target jobs
  pub running : AreMarked (λ (job : Job). is_in_progress job.state) (λ (job : Job). 0) at_work jobs
