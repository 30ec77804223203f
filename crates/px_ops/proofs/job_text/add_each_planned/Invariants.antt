-- The items so far stand behind the text.
use Rattle.std.proofs.Common.{◌≡◌, ◌++◌, take}
use Rattle.px_ops.specs.BookingTexts.{each_after_space}
use Rattle.px_ops.specs.JobTexts.{planned_text}
use Rattle.px_ops.proofs.job_text.add_each_planned.Given as goal

abbrev pub invariant-loop-job : goal.invariant-loop-job
invariant-loop-job l =
    l.text ≡ l.initial.text ++ each_after_space planned_text (take l.job-index l.jobs)
