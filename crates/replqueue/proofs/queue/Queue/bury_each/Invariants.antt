use Rattle.std.proofs.Common.{take}
use Rattle.replqueue.specs.Edits.{RemovesBuried}
use Rattle.replqueue.proofs.queue.Queue.bury_each.Given as goal

-- those that are replaced so far are gone
abbrev pub invariant-loop-job : goal.invariant-loop-job
invariant-loop-job l = RemovesBuried (take l.job-index l.jobs) l.fn.self l.self
