use Rattle.repair_events.proofs.Accept.{accept_keeps}
use Rattle.repair_events.proofs.laws.accept_keeps.Goals as goal

pub returns : goal.returns
returns c = accept_keeps
