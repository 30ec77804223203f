-- What one step does to the queue, within its calls.
use Rattle.std.specs.Prelude.{◌≡◌, ◌⊎◌, ◌+◌, ◌&&◌, not, ℕ, true, List, filter, length, None, Some, ◌++◌}
use Rattle.px_base.specs.declared.ids.JobId.{JobId}
use Rattle.px_ops.specs.declared.job.Job.{Job}
use Rattle.px_cluster.specs.Core.{job_at}
use Rattle.px_cluster.specs.Jobs.{holds_lock, is_dead, is_in_progress, worker_refusal}
use Rattle.px_cluster.specs.Plan.{is_replaced_by}
use Rattle.replqueue.specs.declared.of_pair.OfPair.{OfPair}
use Rattle.replqueue.specs.Marks.{has}
use Rattle.replqueue.specs.Queue.{Queued, core_of}
use Rattle.replqueue.specs.Search.{is_of}

-- the job is one of the queue, and in progress
pub record IsHeld (queue : Queued) (row : Job) : Type 0 where
  pub found : job_at (core_of queue) row.number.0 ≡ Some row
  pub works : is_in_progress row.state ≡ true

-- the job has this number, and its worker is heard
pub record IsWorked (queue : Queued) (job : JobId) (lease : ℕ) (row : Job) : Type 0 where
  pub held : IsHeld queue row
  pub number : row.number ≡ job
  pub accepted : worker_refusal job lease (Some row) ≡ None

-- a job may stand in the place of the one of its number: it is of the same repository and target,
-- and holds no lock that was not held, and is in progress only where that was, or where there is
-- room
pub record MayReplace (queue : Queued) (job : Job) : Type 0 where
  pub before : Job
  pub found : job_at (core_of queue) job.number.0 ≡ Some before
  pub repo : job.repo ≡ before.repo
  pub target : job.target ≡ before.target
  pub lock : holds_lock job.state ≡ true → holds_lock before.state ≡ true
  pub room : is_in_progress job.state ≡ true
      → (is_in_progress before.state ≡ true) ⊎ (has queue.room 0 job.number.0 ≡ true)

-- the jobs of a repository and target that are asked for go
pub record RemovesAll (pair : OfPair) (old new : Queued) : Type 0 where
  pub jobs : new.jobs ≡ filter (λ (job : Job). not (is_of pair job)) old.jobs
  pub last : new.last ≡ old.last

-- the dead jobs go that are replaced
pub record RemovesBuried (more : List Job) (old new : Queued) : Type 0 where
  pub jobs : new.jobs
      ≡ filter (λ (job : Job). not (is_dead job.state && is_replaced_by more job)) old.jobs
  pub last : new.last ≡ old.last

-- these jobs come, and their numbers are given
pub record Appends (more : List Job) (old new : Queued) : Type 0 where
  pub jobs : new.jobs ≡ old.jobs ++ more
  pub last : new.last ≡ old.last + length more
