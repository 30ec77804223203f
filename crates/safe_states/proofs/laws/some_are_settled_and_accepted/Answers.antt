use Rattle.safe_states.proofs.RepairExample.{some_are_settled_and_accepted}
use Rattle.safe_states.proofs.laws.some_are_settled_and_accepted.Goals as goal

pub returns : goal.returns
returns c = some_are_settled_and_accepted
