use Rattle.safe_states.proofs.SafePush.{every_state_is_safe}
use Rattle.safe_states.proofs.laws.every_state_is_safe.Goals as goal

pub returns : goal.returns
returns c = every_state_is_safe
