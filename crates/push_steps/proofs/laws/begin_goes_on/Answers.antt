use Rattle.push_steps.proofs.Begun.{begin_goes}
use Rattle.push_steps.proofs.laws.begin_goes_on.Goals as goal

pub returns : goal.returns
returns c = begin_goes
