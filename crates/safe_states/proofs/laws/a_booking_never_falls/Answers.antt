use Rattle.safe_states.proofs.Grows.{a_booking_never_falls}
use Rattle.safe_states.proofs.laws.a_booking_never_falls.Goals as goal

pub returns : goal.returns
returns c = a_booking_never_falls
