-- What becomes of the next job, as the queue is told it.
use Rattle.std.specs.Prelude.{ℕ, Bool, true, false, not, if◌then◌else◌, Option, None, Some}
use Rattle.px_ops.specs.declared.job.Job.{Job}
use Rattle.px_cluster.specs.Core.{Core, is_in_push, repository}
use Rattle.px_cluster.specs.Ids.{storage_number}
use Rattle.px_cluster.specs.Taking as rule
use Rattle.replqueue.specs.declared.facts.Next.{Next}
use Rattle.replqueue.specs.declared.facts.Taking.{Taking}
use Rattle.replqueue.specs.declared.facts.Taking.TheVariants.{Drop, Take}

-- what is not told is passed over
abbrev pub taking_of : Option Taking → rule.Taking
taking_of None = rule.PassOver
taking_of (Some Drop) = rule.Drop
taking_of (Some (Take source)) = rule.Take (storage_number source)

abbrev pub next_of : Next → rule.Next
next_of next = record { job = next.job; taking = taking_of (Some next.taking) }

-- what becomes of a job that waits: it is passed over where its target is a member of the open push
abbrev pub taking_waiting : Core → Job → rule.Taking
taking_waiting core job =
    if is_in_push core job.repo.0 job.target.0 then rule.PassOver
    else rule.taking_in core (repository core job.repo.0) job

abbrev pub is_passed_over : rule.Taking → Bool
is_passed_over rule.PassOver = true
is_passed_over rule.Drop = false
is_passed_over (rule.Take source) = false

-- the job is not passed over, where a job of the target is looked for
abbrev pub comes_up : Core → ℕ → Job → Bool
comes_up core target job = not (is_passed_over (rule.taking core target job))
