use Rattle.repair_events.proofs.Settle.{settle_keeps}
use Rattle.repair_events.proofs.laws.settle_keeps.Goals as goal

pub returns : goal.returns
returns c = settle_keeps
