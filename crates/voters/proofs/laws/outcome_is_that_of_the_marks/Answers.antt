use Rattle.voters.proofs.MarkRuleLemmas.{outcome_is}
use Rattle.voters.proofs.laws.outcome_is_that_of_the_marks.Goals as goal

pub returns : goal.returns
returns c = outcome_is
