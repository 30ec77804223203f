use Rattle.std.proofs.Common.{◌≡◌, ◌∙◌, None, Some, ap, sym}
use Rattle.px_base.specs.declared.ids.JobId.{JobId}
use Rattle.px_cluster.specs.Core.{job_at}
use Rattle.px_cluster.specs.Jobs.{without_job}
use Rattle.replqueue.specs.Queue.{core_of}
use Rattle.replqueue.proofs.OneJob.{none_dropped, same_id}
use Rattle.replqueue.proofs.queue.Queue.drop.Goals as goal

pub returns-in-Some : goal.returns-in-Some
returns-in-Some c =
    let found : job_at (core_of c.args.self.now) c.args.job.0 ≡ Some c.in-Some.row =
    sym c.copy_of.ensures ∙ c.in-Some.is in
    c.remove.ensures ∙ ap (λ (job : JobId). without_job job (core_of c.args.self.now))
    (same_id c.args.self.now c.args.job c.in-Some.row found)

pub returns-in_default : goal.returns-in_default
returns-in_default c =
    let none : job_at (core_of c.args.self.now) c.args.job.0 ≡ None = sym c.copy_of.ensures
    ∙ c.in_default.is in
    sym (none_dropped c.args.self.now c.args.job none)
