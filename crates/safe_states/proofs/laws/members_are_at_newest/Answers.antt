use Rattle.safe_states.proofs.Conditions.{members_are_at_newest}
use Rattle.safe_states.proofs.laws.members_are_at_newest.Goals as goal

pub returns : goal.returns
returns c = members_are_at_newest
