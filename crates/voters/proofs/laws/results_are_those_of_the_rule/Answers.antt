use Rattle.voters.proofs.CallRuleLemmas.{results_are_of_calls}
use Rattle.voters.proofs.laws.results_are_those_of_the_rule.Goals as goal

pub returns : goal.returns
returns c = results_are_of_calls
