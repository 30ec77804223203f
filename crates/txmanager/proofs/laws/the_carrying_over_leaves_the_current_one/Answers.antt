use Rattle.txmanager.proofs.CurrentLemmas.{current_left}
use Rattle.txmanager.proofs.laws.the_carrying_over_leaves_the_current_one.Goals as goal

pub returns : goal.returns
returns c = current_left
