use Rattle.std.proofs.Common.{◌≡◌, None, subst, sym}
use Rattle.px_ops.specs.declared.op.Op.TheVariants as op
use Rattle.px_cluster.specs.Core.{Core, push_of, voting}
use Rattle.px_cluster.specs.Pushes.{finish_refusal}
use Rattle.px_core.specs.Parts.{core_with}
use Rattle.px_core.specs.Sound.{IsSound}
use Rattle.px_core.proofs.Kept.{kept}
use Rattle.px_core.proofs.OpenPushes.{finish_leads}
use Rattle.px_core.proofs.state.Core.finish.Goals as goal

pub invariant_of-self : goal.invariant_of-self
invariant_of-self c =
    let core = core_with c.self.inside.book c.self.inside.health.up c.self.inside.votes
    c.self.inside.last c.self.inside.turns c.self.inside.reads.items c.self.inside.queue in
    let none : finish_refusal c.args.tx (voting core c.args.tx) (push_of core c.args.tx) ≡ None =
    subst (λ (known : Core). finish_refusal c.args.tx (voting known c.args.tx)
    (push_of known c.args.tx) ≡ None) (sym c.self.view_is) c.in-Ok.ensures.accepted in
    subst IsSound (sym (finish_leads core c.args.tx c.close.new.self c.end.new.self none
    c.close.ensures.state c.end.ensures)) (kept core (op.Finish c.args.tx) c.self.invariant)
