use Rattle.txmanager.specs.Rounds.{Cast}
use Rattle.txmanager.proofs.CallLemmas.{rounds_unless}
use Rattle.txmanager.proofs.transaction.Transaction.cast.Goals as goal

pub invariant_of-self : goal.invariant_of-self
invariant_of-self c = record {
  few = c.self.invariant.few;
  rounds = rounds_unless (Cast c.in-Some.voter c.args.hash.now) c.self.inside.subs.items c.cast_in.new.subs.items c.cast_in.result c.self.invariant.rounds c.cast_in.ensures.state;
}
