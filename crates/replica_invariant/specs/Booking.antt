-- What is booked of a replica.
use Rattle.std.specs.Prelude.{ℕ}

-- nothing is known of it; it holds a generation or a later one; or it was told to commit generation
-- `due` under a lease, and held `was` before
pub data Booking : Type 0 where
  Absent : Booking
  At : (held : ℕ) → Booking
  Doubt : (lease was due : ℕ) → Booking

-- the generation that it holds at least; 0 where nothing is known of it
abbrev pub generation : Booking → ℕ
generation Absent = 0
generation (At held) = held
generation (Doubt lease was due) = was
