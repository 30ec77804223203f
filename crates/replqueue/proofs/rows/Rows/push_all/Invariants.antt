use Rattle.std.proofs.Common.{◌≡◌, ◌++◌, take}
use Rattle.replqueue.proofs.rows.Rows.push_all.Given as goal

-- those so far have come
abbrev pub invariant-loop-job : goal.invariant-loop-job
invariant-loop-job l = l.self ≡ l.fn.self ++ take l.job-index l.jobs
