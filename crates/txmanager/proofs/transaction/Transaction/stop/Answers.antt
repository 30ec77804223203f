use Rattle.std.proofs.Common.{sym, subst}
use Rattle.txmanager.specs.Chain.{IsRounds}
use Rattle.txmanager.specs.Rounds.{Stop}
use Rattle.txmanager.proofs.CarryLemmas.{rounds_kept}
use Rattle.txmanager.proofs.transaction.Transaction.stop.Goals as goal

pub invariant_of-self : goal.invariant_of-self
invariant_of-self c = record {
  few = c.self.invariant.few;
  rounds = subst IsRounds (sym c.stop_in.ensures) (rounds_kept Stop c.self.inside.subs.items c.self.invariant.rounds);
}
