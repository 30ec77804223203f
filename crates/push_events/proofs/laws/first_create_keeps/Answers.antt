use Rattle.push_events.proofs.Create.{first_create_keeps}
use Rattle.push_events.proofs.laws.first_create_keeps.Goals as goal

pub returns : goal.returns
returns c = first_create_keeps
