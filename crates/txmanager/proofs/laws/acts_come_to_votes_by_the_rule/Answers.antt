use Rattle.txmanager.proofs.RunLemmas.{acts_by_rule}
use Rattle.txmanager.proofs.laws.acts_come_to_votes_by_the_rule.Goals as goal

pub returns : goal.returns
returns c = acts_by_rule
