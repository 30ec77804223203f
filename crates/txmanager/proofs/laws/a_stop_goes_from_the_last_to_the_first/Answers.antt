use Rattle.txmanager.proofs.StopLemmas.{back_is_each}
use Rattle.txmanager.proofs.laws.a_stop_goes_from_the_last_to_the_first.Goals as goal

pub returns : goal.returns
returns c = back_is_each
