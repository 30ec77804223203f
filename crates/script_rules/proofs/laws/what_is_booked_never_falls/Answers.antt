use Rattle.script_rules.proofs.Booked.{what_is_booked_goes_by_deletes, what_is_booked_never_falls}
use Rattle.script_rules.proofs.laws.what_is_booked_never_falls.Goals as goal

pub returns-clause-falls : goal.returns-clause-falls
returns-clause-falls c = what_is_booked_never_falls

pub returns-clause-goes : goal.returns-clause-goes
returns-clause-goes c = what_is_booked_goes_by_deletes
