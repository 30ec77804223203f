use Rattle.std.proofs.Common.{◌∙◌, ap, sym}
use Rattle.px_cluster.specs.Taking.{taking_by}
use Rattle.genbook.specs.Health.{core_with_health}
use Rattle.reconciler.proofs.taking.taking.Goals as goal

pub returns-in-Delete : goal.returns-in-Delete
returns-in-Delete c =
    let core = core_with_health c.args.health.now in
    c.taking_delete.ensures core
    ∙ ap (taking_by core c.args.repository.now c.args.job.now) (sym c.in-Delete.is)
