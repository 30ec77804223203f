use Rattle.safe_states.proofs.Reached.{every_state_has_the_invariant}
use Rattle.safe_states.proofs.laws.every_state_has_the_invariant.Goals as goal

pub returns : goal.returns
returns c = every_state_has_the_invariant
