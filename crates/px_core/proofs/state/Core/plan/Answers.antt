use Rattle.std.proofs.Common.{◌∙◌}
use Rattle.std.proofs.lemmas.Result.{IfOk-weaker}
use Rattle.px_cluster.specs.Core.{Core}
use Rattle.px_cluster.specs.Ids.{repo_number}
use Rattle.px_cluster.specs.Plan.{plan}
use Rattle.std.proofs.Common.{ap}
use Rattle.px_core.proofs.Queues.{plan_same}
use Rattle.px_core.proofs.state.Core.plan.Goals as goal

pub returns : goal.returns
returns c =
    let inside = c.self.inside in
    let only = repo_number c.args.only in
    IfOk-weaker c.plan.result _ _ (λ jobs is. is
    ∙ plan_same inside.book inside.health.up inside.votes inside.last inside.turns
    inside.reads.items inside.queue only
    ∙ ap (λ (known : Core). plan known only) c.self.view_is) c.plan.ensures
