-- The form of the queue: its jobs stand in the order of their numbers, and each repository and target
-- has one at most.
use Rattle.std.specs.Prelude.{◌≡◌, ◌<◌, ◌≤◌, ◌||◌, ℕ, true, false, List, [], ◌∷◌}
use Rattle.std.specs.List.{AllByRecursion}
use Rattle.px_ops.specs.declared.job.Job.{Job}
use Rattle.px_cluster.specs.Core.{Core}
use Rattle.px_cluster.specs.Jobs.{holds_lock, is_dead, is_for}

-- of two jobs the later has the greater number, and another repository or target
pub record IsBehind (first later : Job) : Type 0 where
  pub number : first.number.0 < later.number.0
  pub another : is_for first.repo.0 first.target.0 later ≡ false

abbrev pub AreInOrder : List Job → Type 0
AreInOrder [] = Unit {0}
AreInOrder (job ∷ jobs) = AllByRecursion (IsBehind job) jobs × AreInOrder jobs

-- its number was given, and it is ready, in progress, failed or dead: what is completed is gone
pub record IsRow (last : ℕ) (job : Job) : Type 0 where
  pub given : job.number.0 ≤ last
  pub queued : (holds_lock job.state || is_dead job.state) ≡ true

pub record AreRows (last : ℕ) (jobs : List Job) : Type 0 where
  pub order : AreInOrder jobs
  pub each : AllByRecursion (IsRow last) jobs

abbrev pub AreJobs : Core → Type 0
AreJobs core = AreRows core.last_job core.jobs
