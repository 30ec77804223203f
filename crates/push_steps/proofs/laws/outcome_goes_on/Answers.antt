use Rattle.push_steps.proofs.Quiet.{outcome_goes}
use Rattle.push_steps.proofs.laws.outcome_goes_on.Goals as goal

pub returns : goal.returns
returns c = outcome_goes
