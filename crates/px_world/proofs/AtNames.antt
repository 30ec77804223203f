-- The storage of a name is one of the core's.
use Rattle.std.proofs.Common.{◌≡◌, ◌<◌, ◌+◌, ℕ, List, [], ◌∷◌, Bool, None, Some, length, arith, inl, inr}
use Rattle.std.proofs.lemmas.Bool.{cases_Bool}
use Rattle.px_cluster.specs.Core.{Core}
use Rattle.px_cluster.specs.Creating.{has_name}
use Rattle.px_cluster.specs.Numbers.{first_of, places_from}
use Rattle.px_core.specs.Readers.{storage_of}

-- a place of a list is within it
first_within : {A : Type 0} (test : A → Bool) (n : ℕ) (xs : List A) (place : ℕ)
    → first_of (places_from n test xs) ≡ Some place → place < n + length xs
first_within test n [] place is = absurd (let z : None ≡ Some place = is in cc)
first_within test n (x ∷ xs) place is = elim (cases_Bool (test x)) [
  | inl holds ↦ (let there : Some n ≡ Some place = rw holds at is in
      let same : n ≡ place = cc in
      omega (arith, same))
  | inr fails ↦ (let later = first_within test (n + 1) xs place (rw fails at is) in
      omega (arith, later))
]

pub storage_within : (core : Core) (name : List ℕ) (storage : ℕ)
    → storage_of core name ≡ Some storage → storage < length core.storages
storage_within core name storage is =
    let within = first_within (has_name name) 0 core.storages storage is in omega (arith, within)
