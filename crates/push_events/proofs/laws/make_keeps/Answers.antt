use Rattle.push_events.proofs.Make.{make_keeps}
use Rattle.push_events.proofs.laws.make_keeps.Goals as goal

pub returns : goal.returns
returns c = make_keeps
