use Rattle.push_steps.proofs.Ended.{close_goes}
use Rattle.push_steps.proofs.laws.close_goes_on.Goals as goal

pub returns : goal.returns
returns c = close_goes
