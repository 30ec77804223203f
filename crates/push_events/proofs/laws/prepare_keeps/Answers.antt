use Rattle.push_events.proofs.Small.{prepare_keeps}
use Rattle.push_events.proofs.laws.prepare_keeps.Goals as goal

pub returns : goal.returns
returns c = prepare_keeps
