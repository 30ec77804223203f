use Rattle.push_events.proofs.Small.{enrol_keeps}
use Rattle.push_events.proofs.laws.enrol_keeps.Goals as goal

pub returns : goal.returns
returns c = enrol_keeps
