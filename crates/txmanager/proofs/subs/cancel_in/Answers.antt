use Rattle.std.proofs.Common.{ap, ◌∙◌, arith, Ok}
use Rattle.txmanager.specs.Rounds.{current}
use Rattle.txmanager.proofs.CallLemmas.{cancel_chain, canceled_in_current}
use Rattle.txmanager.proofs.subs.cancel_in.Goals as goal

pub carry-requires : goal.carry-requires
carry-requires c =
    cancel_chain c.args.subs.now.items c.cancel_at.new.subs.items c.current_of-at.result c.args.voter c.requires.chain
    (c.current_of-at.ensures ∙ ap (current c.args.voter) c.deref.ensures.value) c.in_ok-cancel_at.ensures.state

pub returns-clause-answer : goal.returns-clause-answer
returns-clause-answer c =
    canceled_in_current c.args.name.now c.args.voter c.args.subs.now.items c.current_of-at.result (Ok tt)
    (c.current_of-at.ensures ∙ ap (current c.args.voter) c.deref.ensures.value)
    (omega (arith, c.if-at-len.false, c.len.ensures, c.args.subs.now.ok.0)) c.in_ok-cancel_at.ensures.answer
