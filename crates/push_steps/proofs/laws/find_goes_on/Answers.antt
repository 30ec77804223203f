use Rattle.push_steps.proofs.Quiet.{find_goes}
use Rattle.push_steps.proofs.laws.find_goes_on.Goals as goal

pub returns : goal.returns
returns c = find_goes
