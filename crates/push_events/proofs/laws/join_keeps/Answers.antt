use Rattle.push_events.proofs.Join.{join_keeps}
use Rattle.push_events.proofs.laws.join_keeps.Goals as goal

pub returns : goal.returns
returns c = join_keeps
