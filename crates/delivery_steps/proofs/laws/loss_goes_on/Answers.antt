use Rattle.delivery_steps.proofs.Loss.{loss_goes}
use Rattle.delivery_steps.proofs.laws.loss_goes_on.Goals as goal

pub returns : goal.returns
returns c = loss_goes
