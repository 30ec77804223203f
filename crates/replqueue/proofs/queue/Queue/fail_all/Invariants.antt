use Rattle.std.proofs.Common.{◌≡◌, length, map}
use Rattle.std.specs.Prelude.{filter}
use Rattle.px_cluster.specs.Jobs.{is_stale, without_stale}
use Rattle.replqueue.specs.Queue.{core_of}
use Rattle.replqueue.specs.Search.{least_after, passes_from}
use Rattle.replqueue.proofs.OneJob.{core_with}
use Rattle.replqueue.proofs.StaleJobs.{ended}
use Rattle.replqueue.proofs.queue.Queue.fail_all.Given as goal

-- with a bad end of those that are left, each has had one
abbrev pub invariant-loop-job : goal.invariant-loop-job
invariant-loop-job l =
    core_with (map (ended (passes_from (least_after l.after)
    (is_stale l.stale.time l.stale.silence))) l.self.jobs) l.self.last
    ≡ without_stale l.stale.time l.stale.silence (core_of l.fn.self)

abbrev pub decreases-loop-job : goal.decreases-loop-job
decreases-loop-job l =
    length (filter (passes_from (least_after l.after) (is_stale l.stale.time l.stale.silence))
    l.self.jobs)
