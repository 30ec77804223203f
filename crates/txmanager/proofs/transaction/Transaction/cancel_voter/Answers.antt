use Rattle.txmanager.specs.Rounds.{CancelVoter}
use Rattle.txmanager.proofs.CallLemmas.{rounds_unless}
use Rattle.txmanager.proofs.transaction.Transaction.cancel_voter.Goals as goal

pub invariant_of-self : goal.invariant_of-self
invariant_of-self c = record {
  few = c.self.invariant.few;
  rounds = rounds_unless (CancelVoter c.in-Some.voter) c.self.inside.subs.items c.cancel_in.new.subs.items c.cancel_in.result c.self.invariant.rounds c.cancel_in.ensures.state;
}
