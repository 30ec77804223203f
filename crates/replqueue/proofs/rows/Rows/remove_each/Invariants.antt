use Rattle.std.proofs.Common.{◌≡◌, take}
use Rattle.std.specs.Prelude.{filter, not}
use Rattle.px_ops.specs.declared.job.Job.{Job}
use Rattle.replqueue.specs.Rows.{is_among}
use Rattle.replqueue.proofs.rows.Rows.remove_each.Given as goal

-- those so far are gone
abbrev pub invariant-loop-job : goal.invariant-loop-job
invariant-loop-job l = l.self ≡ filter (λ (job : Job). not (is_among (take l.job-index l.jobs) job))
    l.fn.self
