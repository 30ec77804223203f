use Rattle.safe_states.proofs.Grows.{a_routed_read_is_answered}
use Rattle.safe_states.proofs.laws.a_routed_read_is_answered.Goals as goal

pub returns : goal.returns
returns c = a_routed_read_is_answered
