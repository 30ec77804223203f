use Rattle.txmanager.proofs.OutLemmas.{carries}
use Rattle.txmanager.proofs.laws.who_is_out_is_canceled_in_each_later_one.Goals as goal

pub returns : goal.returns
returns c = carries
