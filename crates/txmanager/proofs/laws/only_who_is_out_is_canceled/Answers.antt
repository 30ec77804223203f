use Rattle.txmanager.proofs.OnlyLemmas.{only}
use Rattle.txmanager.proofs.laws.only_who_is_out_is_canceled.Goals as goal

pub returns : goal.returns
returns c = only
