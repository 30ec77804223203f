use Rattle.repair_events.proofs.FenceAnswer.{fence_answer_keeps}
use Rattle.repair_events.proofs.laws.fence_answer_keeps.Goals as goal

pub returns : goal.returns
returns c = fence_answer_keeps
