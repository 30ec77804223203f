use Rattle.std.proofs.Common.{sym, subst}
use Rattle.px_ops.specs.declared.op.Op.TheVariants as op
use Rattle.txmanager.specs.Voting.{after_stop, stop_answer}
use Rattle.turns.specs.Turns.{stopped}
use Rattle.px_core.specs.Parts.{core_with}
use Rattle.px_core.specs.Sound.{IsSound}
use Rattle.px_core.proofs.Calls.{mark_leads}
use Rattle.px_core.proofs.Kept.{kept}
use Rattle.px_core.proofs.state.Core.stop.Goals as goal

pub invariant_of-self : goal.invariant_of-self
invariant_of-self c =
    let core = core_with c.self.inside.book c.self.inside.health.up c.self.inside.votes
    c.self.inside.last c.self.inside.turns c.self.inside.reads.items c.self.inside.queue in
    subst IsSound (sym (mark_leads core c.args.tx stop_answer after_stop stopped c.stop.result
    c.in-Ok.field-0 c.stop.new.self c.stop-in-Ok.new.self c.stop.ensures.answer c.in-Ok.is
    c.stop.ensures.state c.stop-in-Ok.ensures))
    (kept core (op.Stop c.args.tx) c.self.invariant)
