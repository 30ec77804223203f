use Rattle.push_events.proofs.Begin.{begin_keeps}
use Rattle.push_events.proofs.laws.begin_keeps.Goals as goal

pub returns : goal.returns
returns c = begin_keeps
