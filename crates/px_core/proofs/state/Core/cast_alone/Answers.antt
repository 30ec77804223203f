use Rattle.std.proofs.Common.{◌≡◌, None, subst, sym}
use Rattle.px_ops.specs.declared.op.Op.TheVariants as op
use Rattle.px_cluster.specs.Core.{Core, push_of}
use Rattle.px_core.specs.Parts.{core_with}
use Rattle.px_core.specs.Sound.{IsSound}
use Rattle.px_core.proofs.Counts.{alone_next}
use Rattle.px_core.proofs.Kept.{kept}
use Rattle.px_core.proofs.state.Core.cast_alone.Goals as goal

pub invariant_of-self : goal.invariant_of-self
invariant_of-self c =
    let core = core_with c.self.inside.book c.self.inside.health.up c.self.inside.votes
    c.self.inside.last c.self.inside.turns c.self.inside.reads.items c.self.inside.queue in
    let none : push_of core c.args.tx ≡ None =
    subst (λ (known : Core). push_of known c.args.tx ≡ None) (sym c.self.view_is) c.requires in
    subst IsSound (sym (alone_next core c.args.tx c.args.voter.now c.args.phase c.args.hash.now none
    c.cast.result c.cast.new.self c.cast.ensures.answer c.cast.ensures.state c.cast.ensures.same))
    (kept core (op.Cast c.args.tx c.args.voter.now c.args.phase c.args.hash.now)
    c.self.invariant)
