use Rattle.push_steps.proofs.Quiet.{booked_goes}
use Rattle.push_steps.proofs.laws.booked_goes_on.Goals as goal

pub returns : goal.returns
returns c = booked_goes
