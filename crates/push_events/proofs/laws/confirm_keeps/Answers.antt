use Rattle.push_events.proofs.Confirm.{confirm_keeps}
use Rattle.push_events.proofs.laws.confirm_keeps.Goals as goal

pub returns : goal.returns
returns c = confirm_keeps
