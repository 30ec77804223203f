use Rattle.delivery_steps.proofs.Fence.{fence_goes, unanswered_fence_goes}
use Rattle.delivery_steps.proofs.laws.fence_goes_on.Goals as goal

pub returns : goal.returns
returns c = record { answered = fence_goes; unanswered = unanswered_fence_goes }
