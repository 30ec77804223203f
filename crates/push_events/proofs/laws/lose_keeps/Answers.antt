use Rattle.push_events.proofs.Small.{lose_keeps}
use Rattle.push_events.proofs.laws.lose_keeps.Goals as goal

pub returns : goal.returns
returns c = lose_keeps
