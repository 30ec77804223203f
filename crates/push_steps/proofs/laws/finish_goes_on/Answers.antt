use Rattle.push_steps.proofs.Ended.{finish_goes}
use Rattle.push_steps.proofs.laws.finish_goes_on.Goals as goal

pub returns : goal.returns
returns c = finish_goes
