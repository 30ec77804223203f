use Rattle.push_events.proofs.Small.{finish_keeps}
use Rattle.push_events.proofs.laws.finish_keeps.Goals as goal

pub returns : goal.returns
returns c = finish_keeps
