-- The storages of replicas that pass a test.
use Rattle.std.proofs.Common.{arith, ◌≡◌, ◌∷◌, [], ℕ, List, Bool, map, refl, ap, inl, inr}
use Rattle.std.specs.Prelude.{◌==◌, ◌&&◌, ◌||◌, filter, find}
use Rattle.std.specs.List.{list_any}
use Rattle.std.specs.Option.{option_map}
use Rattle.std.proofs.lemmas.Bool.{cases_Bool}
use Rattle.std.proofs.lemmas.Grind.{common_steps}
use Rattle.px_base.specs.declared.ids.StorageId.{StorageId}
use Rattle.px_cluster.specs.Book.{Replica}
use Rattle.px_cluster.specs.Numbers.{first_of, is_one_of}
use Rattle.genbook.specs.Changes.{numbers_of}

abbrev storages_of : List Replica → List ℕ
storages_of replicas = map (λ (replica : Replica). replica.storage) replicas

-- a storage is among them where a replica on it passes
pub among_passing : (test : Replica → Bool) (storage : ℕ) (replicas : List Replica)
    → list_any (λ (replica : Replica). (replica.storage == storage) && test replica) replicas
    ≡ is_one_of storage (storages_of (filter test replicas))
among_passing test storage [] = refl
among_passing test storage (replica ∷ replicas) = elim (cases_Bool (test replica)) [
  | inl holds ↦ rw (holds, among_passing test storage replicas) (grind (arith, common_steps))
  | inr fails ↦ rw (fails, among_passing test storage replicas) (grind (arith, common_steps))
]

-- the first of them is that of the first replica that passes
pub first_passing : (test : Replica → Bool) (replicas : List Replica)
    → option_map (λ (replica : Replica). replica.storage) (find test replicas)
    ≡ first_of (storages_of (filter test replicas))
first_passing test [] = refl
first_passing test (replica ∷ replicas) = elim (cases_Bool (test replica)) [
  | inl holds ↦ rw holds refl
  | inr fails ↦ rw fails (first_passing test replicas)
]

-- a storage is one of these where its number is one of theirs
pub among_numbers : (number : ℕ) (storages : List StorageId)
    → list_any (λ (storage : StorageId). storage.0 == number) storages
    ≡ is_one_of number (numbers_of storages)
among_numbers number [] = refl
among_numbers number (storage ∷ storages) =
    ap (λ (rest : Bool). (storage.0 == number) || rest) (among_numbers number storages)
