use Rattle.voters.proofs.StepLemmas.{run-outcome_stays}
use Rattle.voters.proofs.laws.outcome_never_changes.Goals as goal

pub returns : goal.returns
returns c = run-outcome_stays
