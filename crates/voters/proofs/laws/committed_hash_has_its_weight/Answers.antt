use Rattle.voters.proofs.CallLemmas.{calls-lead}
use Rattle.voters.proofs.laws.committed_hash_has_its_weight.Goals as goal

pub returns : goal.returns
returns c = calls-lead
