use Rattle.push_events.proofs.Storages.{assign_keeps}
use Rattle.push_events.proofs.laws.assign_keeps.Goals as goal

pub returns : goal.returns
returns c = assign_keeps
