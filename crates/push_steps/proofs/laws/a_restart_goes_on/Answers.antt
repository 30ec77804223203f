use Rattle.push_steps.proofs.Ended.{restart_goes}
use Rattle.push_steps.proofs.laws.a_restart_goes_on.Goals as goal

pub returns : goal.returns
returns c = restart_goes
