use Rattle.txmanager.proofs.LawLemmas.{in_turn}
use Rattle.txmanager.proofs.laws.who_votes_is_committed_in_each_earlier_one.Goals as goal

pub returns : goal.returns
returns c = in_turn
