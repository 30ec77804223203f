use Rattle.repair_events.proofs.Missed.{fence_miss_keeps}
use Rattle.repair_events.proofs.laws.fence_miss_keeps.Goals as goal

pub returns : goal.returns
returns c = fence_miss_keeps
