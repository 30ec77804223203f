use Rattle.px_ops.specs.declared.op.Op.TheVariants as op
use Rattle.px_core.specs.Parts.{core_with}
use Rattle.px_core.specs.Sound.{IsSound}
use Rattle.px_core.proofs.Kept.{kept}
use Rattle.px_core.proofs.Queues.{stale_leads}
use Rattle.px_core.proofs.state.Core.stale.Goals as goal

pub invariant_of-self : goal.invariant_of-self
invariant_of-self c =
    let inside = c.self.inside in
    let core = core_with inside.book inside.health.up inside.votes inside.last inside.turns
    inside.reads.items inside.queue in
    stale_leads inside.book inside.health.up inside.votes inside.last inside.turns
    inside.reads.items inside.queue
    c.stale.new.self c.args.now c.args.after IsSound c.stale.result c.stale.ensures.ok
    c.stale.ensures.err c.self.invariant
    (kept core (op.Stale c.args.now c.args.after) c.self.invariant)
