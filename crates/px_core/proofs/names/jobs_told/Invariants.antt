use Rattle.std.proofs.Common.{◌≡◌, map, take}
use Rattle.px_cluster.specs.Plan.{told_of}
use Rattle.genbook.specs.Books.{core_of}
use Rattle.px_core.proofs.names.jobs_told.Given as goal

-- what is told of those so far
abbrev pub invariant-loop-job : goal.invariant-loop-job
invariant-loop-job l = l.told ≡ map (told_of (core_of l.book)) (take l.job-index l.jobs)
