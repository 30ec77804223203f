use Rattle.std.proofs.Common.{sym, ap, ◌∙◌, arith, subst, length, List}
use Rattle.px_base.specs.declared.voter.Voter.{Voter}
use Rattle.voters.specs.Panel.{poll_of}
use Rattle.txmanager.specs.Chain.{IsRounds}
use Rattle.txmanager.proofs.CarryLemmas.{opened_rounds, panel_poll}
use Rattle.txmanager.proofs.transaction.Transaction.new.Goals as goal

pub invariant_of-result : goal.invariant_of-result
invariant_of-result c =
    let panel = c.args.panel.now in
    let copied = ap (λ (vs : List Voter). length vs) (c.in_ok-voters.ensures.items ∙ c.voters.ensures.value) in
    record {
      few = omega (arith, copied, c.voters.ensures.panel.few);
      rounds = subst IsRounds (sym c.loop.invariant)
          (opened_rounds (poll_of panel) c.loop.counter (panel_poll panel.voters panel.threshold c.voters.ensures.panel) (omega (arith, c.loop.auto.counter-end, c.requires)));
    }
