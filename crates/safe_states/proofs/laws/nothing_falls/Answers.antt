use Rattle.safe_states.proofs.Grows.{nothing_falls}
use Rattle.safe_states.proofs.laws.nothing_falls.Goals as goal

pub returns : goal.returns
returns c = nothing_falls
