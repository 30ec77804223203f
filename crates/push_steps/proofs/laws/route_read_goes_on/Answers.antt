use Rattle.push_steps.proofs.Quiet.{read_goes}
use Rattle.push_steps.proofs.laws.route_read_goes_on.Goals as goal

pub returns : goal.returns
returns c = read_goes
