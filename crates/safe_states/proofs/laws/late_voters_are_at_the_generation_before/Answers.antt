use Rattle.safe_states.proofs.Conditions.{late_voters_are_at_the_generation_before}
use Rattle.safe_states.proofs.laws.late_voters_are_at_the_generation_before.Goals as goal

pub returns : goal.returns
returns c = late_voters_are_at_the_generation_before
