-- The names of some references that are in conflict with a name: those above it, of which it is the rest, and those under it.
use Rattle.std.specs.Prelude.{◌≡◌, ℕ, ◌<◌, true, false, List, take, slice_get, IsSome, None, Some}
use Rattle.std.specs.Ordering.{is_gt}
use Rattle.px_base.specs.RefList.{References, is_under, name_cmp, ref_at}

-- no name that ends before one of the first slashes of this one, those before the place, is there
abbrev pub NoneBefore : References → List ℕ → ℕ → Type 0
NoneBefore refs name place =
    (k : ℕ) → k < place → slice_get name k ≡ Some 47 → ref_at refs (take k name) ≡ None

-- none that ends before any of them is there
abbrev pub NoneAbove : References → List ℕ → Type 0
NoneAbove refs name = (k : ℕ) → slice_get name k ≡ Some 47 → ref_at refs (take k name) ≡ None

-- the shortest name that is there and ends before a slash of this one
pub record IsLeastAbove (refs : References) (name above : List ℕ) : Type 0 where
  pub place : ℕ
  pub slash : slice_get name place ≡ Some 47
  pub is : above ≡ take place name
  pub there : IsSome (ref_at refs above)
  pub shortest : NoneBefore refs name place

-- no name under this one is there
abbrev pub NoneUnder : References → List ℕ → Type 0
NoneUnder refs name = (other : List ℕ) → IsSome (ref_at refs other) → is_under other name ≡ false

-- the least name under this one that is there
pub record IsLeastUnder (refs : References) (name under : List ℕ) : Type 0 where
  pub there : IsSome (ref_at refs under)
  pub is : is_under under name ≡ true
  pub least : (other : List ℕ) → IsSome (ref_at refs other) → is_under other name ≡ true
      → is_gt (name_cmp under other) ≡ false
