-- Jobs that come to a list under the next numbers.
use Rattle.std.specs.Prelude.{◌≡◌, ◌+◌, ◌-◌, ◌^◌, ◌++◌, ℕ, List, [], ◌∷◌, length, take, Option, None, Some}
use Rattle.px_ops.specs.declared.job.Job.{Job}
use Rattle.px_cluster.specs.Plan.{numbered}
use Rattle.reconciler.specs.declared.listed.Listed.{Listed}

-- the job, if there is one
abbrev pub jobs_of : Option Job → List Job
jobs_of None = []
jobs_of (Some job) = job ∷ []

-- as many jobs as there are numbers after the last one
abbrev pub cut : ℕ → List Job → List Job
cut last jobs = take (2 ^ 64 - 1 - last) jobs

-- these jobs come, as far as numbers are left
pub record Adds (jobs : List Job) (old new : Listed) : Type 0 where
  pub listed : new.jobs ≡ old.jobs ++ numbered old.last (cut old.last jobs)
  pub last : new.last ≡ old.last + length (cut old.last jobs)
