use Rattle.txmanager.proofs.LawLemmas.{named}
use Rattle.txmanager.proofs.laws.a_committed_hash_is_named_by_a_quorum.Goals as goal

pub returns : goal.returns
returns c = named
