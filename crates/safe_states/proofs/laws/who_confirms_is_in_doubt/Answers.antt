use Rattle.safe_states.proofs.Conditions.{who_confirms_is_in_doubt}
use Rattle.safe_states.proofs.laws.who_confirms_is_in_doubt.Goals as goal

pub returns : goal.returns
returns c = who_confirms_is_in_doubt
