use Rattle.push_events.proofs.Create.{create_keeps}
use Rattle.push_events.proofs.laws.create_keeps.Goals as goal

pub returns : goal.returns
returns c = create_keeps
