-- Whether something is found.
use Rattle.std.proofs.Common.{◌≡◌, ◌∷◌, [], List, Bool, true, false, is_some, Option, None, Some, refl, inl, inr, find}
use Rattle.std.specs.List.{list_any}
use Rattle.std.specs.Option.{option_copied}
use Rattle.std.proofs.lemmas.Bool.{cases_Bool}

-- an element passes a test exactly where one is found
pub found_any : {A : Type 0} (test : A → Bool) (xs : List A)
    → is_some (find test xs) ≡ list_any test xs
found_any test [] = refl
found_any test (x ∷ xs) = elim (cases_Bool (test x)) [
  | inl holds ↦ rw holds refl
  | inr fails ↦ rw fails (found_any test xs)
]
