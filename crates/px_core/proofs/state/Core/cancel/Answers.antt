use Rattle.std.proofs.Common.{sym, subst}
use Rattle.px_ops.specs.declared.op.Op.TheVariants as op
use Rattle.txmanager.specs.Voting.{after_cancel, done}
use Rattle.turns.specs.Turns.{canceled}
use Rattle.px_core.specs.Parts.{core_with}
use Rattle.px_core.specs.Sound.{IsSound}
use Rattle.px_core.proofs.Calls.{mark_leads}
use Rattle.px_core.proofs.Kept.{kept}
use Rattle.px_core.proofs.state.Core.cancel.Goals as goal

pub invariant_of-self : goal.invariant_of-self
invariant_of-self c =
    let core = core_with c.self.inside.book c.self.inside.health.up c.self.inside.votes
    c.self.inside.last c.self.inside.turns c.self.inside.reads.items c.self.inside.queue in
    subst IsSound (sym (mark_leads core c.args.tx done after_cancel canceled c.cancel.result
    c.in-Ok.field-0 c.cancel.new.self c.cancel-in-Ok.new.self c.cancel.ensures.answer c.in-Ok.is
    c.cancel.ensures.state c.cancel-in-Ok.ensures))
    (kept core (op.Cancel c.args.tx) c.self.invariant)
