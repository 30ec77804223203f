-- The names of storages, and their voters, by their numbers.
use Rattle.std.proofs.Common.{◌≡◌, ◌∙◌, ◌<◌, ◌==◌, ◌+◌, ℕ, suc, List, [], ◌∷◌, true, false, None, Some, refl, ap, inl, inr, length, map, nat_lt, arith}
use Rattle.std.specs.Prelude.{cond, position}
use Rattle.std.specs.List.{AllByRecursion, position_or_len}
use Rattle.std.proofs.lemmas.Bool.Decides.{nat_tests}
use Rattle.std.specs.Option.{option_map}
use Rattle.px_base.specs.declared.ids.StorageId.{StorageId}
use Rattle.px_cluster.specs.Numbers.{place_in}
use Rattle.cluster_form.proofs.Lists.{bool}
use Rattle.genbook.specs.Changes.{numbers_of}

-- what is made of each storage by its number
pub map_numbers : {A : Type 0} (f : ℕ → A) (storages : List StorageId)
    → map (λ (storage : StorageId). f storage.0) storages ≡ map f (numbers_of storages)
map_numbers f [] = refl
map_numbers f (storage ∷ storages) = λ i. f storage.0 ∷ map_numbers f storages i

-- there are as many numbers
pub numbers_as_many : (storages : List StorageId)
    → length (numbers_of storages) ≡ length storages
numbers_as_many [] = refl
numbers_as_many (storage ∷ storages) = ap suc (numbers_as_many storages)

-- storages are known where their numbers are
pub known_by_numbers : (count : ℕ) (storages : List StorageId)
    → AllByRecursion (λ n. n < count) (numbers_of storages)
    → AllByRecursion (λ (storage : StorageId). storage.0 < count) storages
known_by_numbers count [] all = tt
known_by_numbers count (storage ∷ storages) all =
    (all.0, known_by_numbers count storages all.1)

shifted : (place next count more : ℕ) → next ≡ suc place → more ≡ suc count
    → cond (nat_lt next more) (Some next) None
    ≡ option_map suc (cond (nat_lt place count) (Some place) None)
shifted place next count more next_is more_is = elim (bool (nat_lt place count)) [
  | inl holds ↦ (let later : nat_lt next more ≡ true =
      grind (arith, nat_tests, holds, next_is, more_is) in rw later (rw holds (ap Some next_is)))
  | inr fails ↦ (let later : nat_lt next more ≡ false =
      grind (arith, nat_tests, fails, next_is, more_is) in rw later (rw fails refl))
]

-- the place of a storage is that of its number
pub place_is : (members : List StorageId) (storage : ℕ)
    → position (λ (member : StorageId). member.0 == storage) members
    ≡ place_in (numbers_of members) storage
place_is [] storage = refl
place_is (member ∷ members) storage = elim (bool (member.0 == storage)) [
  | inl holds ↦ (let first : nat_lt 0 (length (member ∷ members)) ≡ true =
      grind (arith, nat_tests) in rw holds (rw first refl))
  | inr fails ↦ (let place = position_or_len (λ (m : StorageId). m.0 == storage) members in
      rw fails (shifted place (1 + place) (length members) (length (member ∷ members))
      (omega arith) (omega arith) ∙ ap (option_map suc) (place_is members storage)))
]
