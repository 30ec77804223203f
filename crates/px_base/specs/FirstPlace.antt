-- The first of a set of places.
use Rattle.std.specs.Prelude.{ℕ, ◌<◌}

-- the place is in the set, and none before it is
pub record IsFirst (Bad : ℕ → Type 0) (at : ℕ) : Type 0 where
  pub bad : Bad at
  pub first : (k : ℕ) → k < at → ¬ (Bad k)
