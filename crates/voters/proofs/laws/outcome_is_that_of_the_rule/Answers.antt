use Rattle.voters.proofs.CallRuleLemmas.{outcome_is_of_calls}
use Rattle.voters.proofs.laws.outcome_is_that_of_the_rule.Goals as goal

pub returns : goal.returns
returns c = outcome_is_of_calls
