use Rattle.script_rules.proofs.Booked.{newest_never_falls}
use Rattle.script_rules.proofs.laws.newest_never_falls.Goals as goal

pub returns : goal.returns
returns c = newest_never_falls
