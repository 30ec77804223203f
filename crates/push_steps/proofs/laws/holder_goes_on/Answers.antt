use Rattle.push_steps.proofs.Quiet.{holder_goes}
use Rattle.push_steps.proofs.laws.holder_goes_on.Goals as goal

pub returns : goal.returns
returns c = holder_goes
