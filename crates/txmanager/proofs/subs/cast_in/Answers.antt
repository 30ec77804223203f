use Rattle.std.proofs.Common.{ap, sym, ◌∙◌, arith, Ok}
use Rattle.txmanager.specs.Rounds.{current}
use Rattle.txmanager.specs.VoterCalls.{phase_refusal}
use Rattle.txmanager.proofs.CallLemmas.{cast_chain, in_current}
use Rattle.txmanager.proofs.subs.cast_in.Goals as goal

pub carry-requires : goal.carry-requires
carry-requires c =
    cast_chain c.args.subs.now.items c.cast_at.new.subs.items c.current_of-at.result c.args.voter c.args.hash.now c.requires.chain
    (c.current_of-at.ensures ∙ ap (current c.args.voter) c.deref.ensures.value) c.in_ok-counted.ensures.state

pub returns-clause-answer : goal.returns-clause-answer
returns-clause-answer c =
    in_current c.args.name.now c.args.phase c.args.voter c.args.hash.now c.args.subs.now.items c.current_of-at.result (Ok c.in_ok-counted.counted)
    (c.current_of-at.ensures ∙ ap (current c.args.voter) c.deref.ensures.value)
    (omega (arith, c.if-at-len.false, c.len.ensures, c.args.subs.now.ok.0))
    (ap (phase_refusal c.args.phase) (sym c.due_at.ensures) ∙ sym c.refused_phase.ensures ∙ c.in_default.is)
    c.in_ok-counted.ensures.answer
