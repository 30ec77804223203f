-- How jobs are looked for.
use Rattle.std.specs.Prelude.{◌+◌, ◌&&◌, ℕ, Bool, if◌then◌else◌, nat_le, Option, None, Some}
use Rattle.px_cluster.specs.Jobs.{holds_lock, is_dead, is_for, is_in_progress}
use Rattle.px_base.specs.declared.ids.JobId.{JobId}
use Rattle.px_ops.specs.declared.job.Job.{Job}
use Rattle.px_ops.specs.declared.job.JobState.{JobState}
use Rattle.replqueue.specs.declared.of_pair.OfPair.{OfPair}
use Rattle.replqueue.specs.declared.of_pair.Which.{Which}
use Rattle.replqueue.specs.declared.of_pair.Which.TheVariants.{Buried, Locked, Running}

-- the least number after that of another job, if one is given
abbrev pub least_after : Option JobId → ℕ
least_after None = 0
least_after (Some job) = job.0 + 1

-- a job that passes a test, from a number on
abbrev pub passes_from : ℕ → (Job → Bool) → Job → Bool
passes_from from test job = nat_le from job.number.0 && test job

-- the job, where it passes a test
abbrev pub if_passing : (Job → Bool) → Option Job → Option Job
if_passing test None = None
if_passing test (Some job) = if test job then Some job else None

-- ---- jobs of a repository and target

-- in a state that is asked for
abbrev pub is_one : Which → JobState → Bool
is_one Locked state = holds_lock state
is_one Buried state = is_dead state
is_one Running state = is_in_progress state

abbrev pub is_of : OfPair → Job → Bool
is_of pair job = is_one pair.which job.state && is_for pair.repo.0 pair.target.0 job
