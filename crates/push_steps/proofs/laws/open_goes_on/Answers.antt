use Rattle.push_steps.proofs.Opened.{open_goes}
use Rattle.push_steps.proofs.laws.open_goes_on.Goals as goal

pub returns : goal.returns
returns c = open_goes
