-- The items so far stand behind the text.
use Rattle.std.proofs.Common.{◌≡◌, ◌++◌, take}
use Rattle.std.specs.Fmt.{decimal}
use Rattle.px_ops.specs.BookingTexts.{each_after_space}
use Rattle.px_ops.proofs.job_text.add_each_number.Given as goal

abbrev pub invariant-loop-job : goal.invariant-loop-job
invariant-loop-job l =
    l.text ≡ l.initial.text ++ each_after_space (λ job. decimal job.0) (take l.job-index l.jobs)
