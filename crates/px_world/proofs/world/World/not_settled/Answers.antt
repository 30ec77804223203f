use Rattle.std.proofs.Common.{◌≡◌, ◌∙◌, ℕ, Option, ap, subst, sym}
use Rattle.px_ops.specs.declared.op.Op.TheVariants as operation
use Rattle.px_cluster.specs.Ops.{refusal_of}
use Rattle.px_world.specs.Asked.{not_acked}
use Rattle.px_world.specs.World.{Kept}
use Rattle.px_world.proofs.world.World.not_settled.Goals as goal

pub returns-in-Ok : goal.returns-in-Ok
returns-in-Ok c = subst (λ (kept : Kept). (last : Option ℕ) → c.refused.result ≡ not_acked
    (refusal_of kept.core (operation.Settle c.args.repo c.args.storage c.args.lease last)))
    c.self.view_is
    (λ last. c.refused.ensures ∙ ap not_acked (sym (c.in-Ok.ensures.accepted last)))

pub returns-in-Err : goal.returns-in-Err
returns-in-Err c = subst (λ (kept : Kept). (last : Option ℕ) → c.refused-in-Err.result ≡ not_acked
    (refusal_of kept.core (operation.Settle c.args.repo c.args.storage c.args.lease last)))
    c.self.view_is
    (λ last. c.refused-in-Err.ensures ∙ ap not_acked (sym (c.in-Err.ensures.refused last)))
