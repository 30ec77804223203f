use Rattle.safe_states.proofs.SafePush.{the_invariant_is_safe}
use Rattle.safe_states.proofs.laws.the_invariant_is_safe.Goals as goal

pub returns : goal.returns
returns c = the_invariant_is_safe
