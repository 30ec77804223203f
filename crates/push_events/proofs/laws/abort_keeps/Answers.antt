use Rattle.push_events.proofs.Small.{abort_keeps}
use Rattle.push_events.proofs.laws.abort_keeps.Goals as goal

pub returns : goal.returns
returns c = abort_keeps
