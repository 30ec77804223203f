use Rattle.safe_states.proofs.PushExample.{some_push_ends}
use Rattle.safe_states.proofs.laws.some_push_ends.Goals as goal

pub returns : goal.returns
returns c = some_push_ends
