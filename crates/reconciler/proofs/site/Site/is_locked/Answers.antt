use Rattle.std.proofs.Common.{◌∙◌, ◌&&◌, rules, ap, is_some}
use Rattle.px_ops.specs.declared.job.Job.{Job}
use Rattle.px_cluster.specs.Jobs.{holds_lock, is_for}
use Rattle.reconciler.proofs.Locks.{found_any}
use Rattle.reconciler.proofs.site.Site.is_locked.Goals as goal

pub returns : goal.returns
returns c =
    let repo = c.args.self.now.repo.0 in
    let found = found_any (λ (job : Job). holds_lock job.state && is_for repo c.args.storage.0 job)
    c.args.self.now.queue.now.jobs in
    search (rules, found, ap is_some c.held.ensures)
