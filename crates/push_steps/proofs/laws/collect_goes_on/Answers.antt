use Rattle.push_steps.proofs.Collected.{collect_goes}
use Rattle.push_steps.proofs.laws.collect_goes_on.Goals as goal

pub returns : goal.returns
returns c = collect_goes
