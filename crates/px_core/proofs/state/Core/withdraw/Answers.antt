use Rattle.std.proofs.Common.{sym, subst}
use Rattle.px_ops.specs.declared.op.Op.TheVariants as op
use Rattle.txmanager.specs.VoterCalls.{after_cancel_voter, cancel_voter_answer}
use Rattle.px_core.specs.Parts.{core_with}
use Rattle.px_core.specs.Sound.{IsSound}
use Rattle.px_core.proofs.Calls.{call_leads}
use Rattle.px_core.proofs.Kept.{kept}
use Rattle.px_core.proofs.state.Core.withdraw.Goals as goal

pub invariant_of-self : goal.invariant_of-self
invariant_of-self c =
    let core = core_with c.self.inside.book c.self.inside.health.up c.self.inside.votes
    c.self.inside.last c.self.inside.turns c.self.inside.reads.items c.self.inside.queue in
    subst IsSound (sym (call_leads core c.args.tx (cancel_voter_answer c.args.voter.now)
    (after_cancel_voter c.args.voter.now) c.cancel_voter.result c.cancel_voter.new.self
    c.cancel_voter.ensures.answer c.cancel_voter.ensures.state c.cancel_voter.ensures.same))
    (kept core (op.Withdraw c.args.tx c.args.voter.now) c.self.invariant)
