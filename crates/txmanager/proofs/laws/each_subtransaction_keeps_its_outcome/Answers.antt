use Rattle.txmanager.proofs.LawLemmas.{keeps_outcome}
use Rattle.txmanager.proofs.laws.each_subtransaction_keeps_its_outcome.Goals as goal

pub returns : goal.returns
returns c = keeps_outcome
