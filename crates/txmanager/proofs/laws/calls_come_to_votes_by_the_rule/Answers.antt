use Rattle.txmanager.proofs.RegistryRunLemmas.{calls_by_rule}
use Rattle.txmanager.proofs.laws.calls_come_to_votes_by_the_rule.Goals as goal

pub returns : goal.returns
returns c = calls_by_rule
