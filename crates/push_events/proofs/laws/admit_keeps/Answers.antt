use Rattle.push_events.proofs.Storages.{admit_keeps}
use Rattle.push_events.proofs.laws.admit_keeps.Goals as goal

pub returns : goal.returns
returns c = admit_keeps
