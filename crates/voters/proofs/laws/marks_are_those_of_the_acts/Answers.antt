use Rattle.voters.proofs.MarkRuleLemmas.{run-marks}
use Rattle.voters.proofs.laws.marks_are_those_of_the_acts.Goals as goal

pub returns : goal.returns
returns c = run-marks
