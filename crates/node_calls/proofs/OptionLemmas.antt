-- Causes of refusals, the first of which counts; and values that are made from others.
use Rattle.std.proofs.Common.{◌≡◌, Option, None, Some, refl}
use Rattle.std.specs.Option.{IsSome, option_map, option_or}

-- where no cause holds, the first does not
pub no_first : {A : Type 0} (a b : Option A) → option_or a b ≡ None → a ≡ None
no_first None b none = refl
no_first (Some e) b none = absurd (cc)

-- and neither do the others
pub no_second : {A : Type 0} (a b : Option A) → option_or a b ≡ None → b ≡ None
no_second None b none = none
no_second (Some e) b none = absurd (cc)

-- where none is made, there is none to make it from
pub none_mapped : {A B : Type 0} (f : A → B) (there : Option A) → option_map f there ≡ None
    → there ≡ None
none_mapped f None is = refl
none_mapped f (Some found) is = absurd (cc)

-- and where one is, there is one
pub some_mapped : {A B : Type 0} (f : A → B) (there : Option A) → IsSome (option_map f there)
    → IsSome there
some_mapped f None is = is
some_mapped f (Some found) is = refl
