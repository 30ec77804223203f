use Rattle.push_steps.proofs.Quiet.{health_goes}
use Rattle.push_steps.proofs.laws.health_goes_on.Goals as goal

pub returns : goal.returns
returns c = health_goes
