use Rattle.push_events.proofs.Untouched.{appear_keeps}
use Rattle.push_events.proofs.laws.appear_keeps.Goals as goal

pub returns : goal.returns
returns c = appear_keeps
