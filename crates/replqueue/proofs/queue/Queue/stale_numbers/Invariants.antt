use Rattle.std.proofs.Common.{◌≡◌, ◌++◌, length, map}
use Rattle.std.specs.Prelude.{filter}
use Rattle.px_ops.specs.declared.job.Job.{Job}
use Rattle.px_cluster.specs.Jobs.{is_stale, stale_numbers}
use Rattle.replqueue.specs.Queue.{core_of}
use Rattle.replqueue.specs.Search.{least_after, passes_from}
use Rattle.replqueue.proofs.queue.Queue.stale_numbers.Given as goal

-- the numbers so far stand before those of the jobs that are left
abbrev pub invariant-loop-job : goal.invariant-loop-job
invariant-loop-job l =
    l.numbers ++ map (λ (job : Job). job.number)
    (filter (passes_from (least_after l.after) (is_stale l.stale.time l.stale.silence))
    l.self.jobs)
    ≡ stale_numbers l.stale.time l.stale.silence (core_of l.self)

abbrev pub decreases-loop-job : goal.decreases-loop-job
decreases-loop-job l =
    length (filter (passes_from (least_after l.after) (is_stale l.stale.time l.stale.silence))
    l.self.jobs)
