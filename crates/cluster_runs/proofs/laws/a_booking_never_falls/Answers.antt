use Rattle.cluster_runs.proofs.Later.{bookings_never_fall}
use Rattle.cluster_runs.proofs.laws.a_booking_never_falls.Goals as goal

pub returns : goal.returns
returns c = bookings_never_fall
