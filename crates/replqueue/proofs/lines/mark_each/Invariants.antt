use Rattle.std.proofs.Common.{true, take}
use Rattle.px_ops.specs.declared.job.Job.{Job}
use Rattle.replqueue.specs.Lines.{line_by}
use Rattle.replqueue.specs.Marks.{AreMarked, KeepsAll}
use Rattle.replqueue.proofs.lines.mark_each.Given as goal

-- those so far are marked, and no mark is lost
abbrev pub invariant-loop-job : goal.invariant-loop-job
invariant-loop-job l = record {
  marked : AreMarked (λ (job : Job). true) (line_by l.by) l.marks (take l.job-index l.jobs);
  others : KeepsAll l.fn.marks l.marks;
}
