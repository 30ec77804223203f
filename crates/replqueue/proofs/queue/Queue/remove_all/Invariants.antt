use Rattle.std.proofs.Common.{◌≡◌, length}
use Rattle.std.specs.Prelude.{filter, not}
use Rattle.px_ops.specs.declared.job.Job.{Job}
use Rattle.replqueue.specs.Search.{is_of}
use Rattle.replqueue.proofs.queue.Queue.remove_all.Given as goal

-- all others are there still
abbrev pub invariant-loop-job : goal.invariant-loop-job
invariant-loop-job l = record {
  jobs : filter (λ (job : Job). not (is_of l.pair job)) l.self.jobs
      ≡ filter (λ (job : Job). not (is_of l.pair job)) l.fn.self.jobs;
  last : l.self.last ≡ l.fn.self.last;
}

abbrev pub decreases-loop-job : goal.decreases-loop-job
decreases-loop-job l = length l.self.jobs
