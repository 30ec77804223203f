use Rattle.delivery_steps.proofs.Snapshot.{snapshot_goes}
use Rattle.delivery_steps.proofs.laws.snapshot_goes_on.Goals as goal

pub returns : goal.returns
returns c = snapshot_goes
