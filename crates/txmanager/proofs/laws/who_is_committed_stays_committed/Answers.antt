use Rattle.txmanager.proofs.LawLemmas.{keeps_commit}
use Rattle.txmanager.proofs.laws.who_is_committed_stays_committed.Goals as goal

pub returns : goal.returns
returns c = keeps_commit
