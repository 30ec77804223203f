-- The place of the one element that passes a test, as an index has it.
use Rattle.std.specs.Prelude.{ℕ, Bool, false, if◌then◌else◌, List, slice_get, Option, None, Some}

-- there is an element, and it passes
abbrev pub passes : {A : Type 0} → (A → Bool) → Option A → Bool
passes test None = false
passes test (Some x) = test x

-- the place that an index has, where what stands there passes
abbrev pub checked : {A : Type 0} → (A → Bool) → List A → Option ℕ → Option ℕ
checked test xs None = None
checked test xs (Some at) = if passes test (slice_get xs at) then Some at else None
