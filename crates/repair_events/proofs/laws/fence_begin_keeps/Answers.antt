use Rattle.repair_events.proofs.FenceBegin.{fence_begin_keeps}
use Rattle.repair_events.proofs.laws.fence_begin_keeps.Goals as goal

pub returns : goal.returns
returns c = fence_begin_keeps
