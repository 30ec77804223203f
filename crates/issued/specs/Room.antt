-- Room in a map, in which nothing is kept yet.
use Rattle.std.specs.Prelude.{◌≡◌, ◌⊎◌, cond, List, IsSome, None, Option, Some}
use Rattle.std.specs.BTreeMap.{is_at}
use Rattle.std.specs.Map.{lookup}
use Rattle.std.specs.declared.cmp.Ordering.{Ordering}

module _ {K V : Type 0} (cmp : K → K → Ordering) (key : K) where
  -- there is room for a key that had none, in which nothing is kept, and all else stays
  pub record MakesNew (old new : List (K × Option V)) : Type 0 where
    pub none : lookup (is_at (cmp key)) old ≡ None
    pub becomes : (other : K) → lookup (is_at (cmp other)) new
        ≡ cond (is_at (cmp key) other) (Some None) (lookup (is_at (cmp other)) old)

  -- there is room for a key that had some, and nothing changes
  pub record HadRoom (old new : List (K × Option V)) : Type 0 where
    pub some : IsSome (lookup (is_at (cmp key)) old)
    pub same : new ≡ old

  abbrev pub MakesRoom : List (K × Option V) → List (K × Option V) → Type 0
  MakesRoom old new = MakesNew old new ⊎ HadRoom old new
