use Rattle.safe_states.proofs.Reached.{each_event_keeps_the_invariant}
use Rattle.safe_states.proofs.laws.each_event_keeps_the_invariant.Goals as goal

pub returns : goal.returns
returns c = each_event_keeps_the_invariant
