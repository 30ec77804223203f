use Rattle.std.proofs.Common.{◌≡◌, ◌∙◌, List, ap, sym}
use Rattle.std.specs.Prelude.{filter, not}
use Rattle.px_ops.specs.declared.job.Job.{Job}
use Rattle.replqueue.specs.Rows.{is_among}
use Rattle.replqueue.proofs.Ends.{failed_so}
use Rattle.replqueue.proofs.Orders.{front_ascends, next_ascends, rolled_back}
use Rattle.replqueue.proofs.rows.Rows.push_all.Goals as goal

pub push-requires : goal.push-requires
push-requires c =
    next_ascends c.loop-job.job-index c.args.self.now c.args.jobs.now c.loop-job.self
    c.job-item.result c.loop-job-test.true c.job-item.is c.loop-job.invariant c.requires

pub returns-then-is_err-clause-err : goal.returns-then-is_err-clause-err
returns-then-is_err-clause-err c =
    let same : c.push.new.self ≡ c.loop-job.self =
    failed_so c.push.result (sym c.is_err.ensures.value ∙ c.if-is_err.true) c.push.ensures.err
    in
    c.remove_each.ensures
    ∙ ap (λ (jobs : List Job). filter (λ (job : Job). not (is_among c.args.jobs.now job)) jobs)
    (same ∙ c.loop-job.invariant)
    ∙ rolled_back c.loop-job.job-index c.args.self.now c.args.jobs.now c.requires

pub returns-then-is_err-clause-ascend : goal.returns-then-is_err-clause-ascend
returns-then-is_err-clause-ascend c =
    rw (returns-then-is_err-clause-err c) (front_ascends c.args.self.now c.args.jobs.now c.requires)
