use Rattle.push_events.proofs.Decide.{decide_keeps}
use Rattle.push_events.proofs.laws.decide_keeps.Goals as goal

pub returns : goal.returns
returns c = decide_keeps
