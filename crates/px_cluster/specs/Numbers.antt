-- Numbers in lists: whether one is there and where, and the places of what passes a test.
use Rattle.std.specs.Prelude.{ℕ, suc, ◌+◌, ◌==◌, Bool, if◌then◌else◌, List, [], ◌∷◌, Option, None, Some}
use Rattle.std.specs.List.{list_any}
use Rattle.std.specs.Option.{option_map}

-- the number is one of these
abbrev pub is_one_of : ℕ → List ℕ → Bool
is_one_of number numbers = list_any (λ other. other == number) numbers

-- the first of these, if there is one
abbrev pub first_of : List ℕ → Option ℕ
first_of [] = None
first_of (number ∷ numbers) = Some number

-- the place of a number among these, from 0
abbrev pub place_in : List ℕ → ℕ → Option ℕ
place_in [] number = None
place_in (other ∷ others) number =
    if other == number then Some 0 else option_map suc (place_in others number)

-- the places, from a number on, of the elements that pass a test
abbrev pub places_from : {A : Type 0} → ℕ → (A → Bool) → List A → List ℕ
places_from n test [] = []
places_from n test (x ∷ xs) =
    if test x then n ∷ places_from (n + 1) test xs else places_from (n + 1) test xs

-- the places, from 0, of the elements that pass a test
abbrev pub places_of : {A : Type 0} → (A → Bool) → List A → List ℕ
places_of test xs = places_from 0 test xs
