-- Which bookings are seen as an absence.
use Rattle.std.proofs.Common.{◌≡◌, true, false, refl}
use Rattle.px_ops.specs.declared.booking.Booking.{Booking}
use Rattle.px_ops.specs.declared.booking.Booking.TheVariants as booking
use Rattle.px_cluster.specs.Book.{is_absent, is_in_doubt}
use Rattle.replica_invariant.specs.Booking.{Absent, At, Doubt}
use Rattle.cluster_history.specs.Seen.{seen_booking}

-- an absence is
pub seen_absent : (booked : Booking) → is_absent booked ≡ true → seen_booking booked ≡ Absent
seen_absent booking.Absent is = refl
seen_absent (booking.At held) is = absurd (let z : false ≡ true = is in cc)
seen_absent (booking.Doubt lease was due) is = absurd (let z : false ≡ true = is in cc)

-- what is booked or in doubt is not
pub booked_present : (booked : Booking) → is_absent booked ≡ false
    → seen_booking booked ≡ Absent → ⊥
booked_present booking.Absent is same = let z : true ≡ false = is in cc
booked_present (booking.At held) is same = let z : At held.0 ≡ Absent = same in cc
booked_present (booking.Doubt lease was due) is same =
    let z : Doubt lease was.0 due.0 ≡ Absent = same in cc

-- .. nor what is in doubt
pub doubted_present : (booked : Booking) → is_in_doubt booked ≡ true
    → seen_booking booked ≡ Absent → ⊥
doubted_present booking.Absent is same = let z : false ≡ true = is in cc
doubted_present (booking.At held) is same = let z : false ≡ true = is in cc
doubted_present (booking.Doubt lease was due) is same =
    let z : Doubt lease was.0 due.0 ≡ Absent = same in cc
