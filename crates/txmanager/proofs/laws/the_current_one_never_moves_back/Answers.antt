use Rattle.txmanager.proofs.LawLemmas.{current_on}
use Rattle.txmanager.proofs.laws.the_current_one_never_moves_back.Goals as goal

pub returns : goal.returns
returns c = current_on
