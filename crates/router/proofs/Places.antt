-- The storages of replicas that pass a test.
use Rattle.std.proofs.Common.{arith, ◌≡◌, ◌∷◌, [], ℕ, List, Bool, map, refl, ap, inl, inr, slice_get}
use Rattle.std.specs.Prelude.{◌==◌, ◌&&◌, not, filter, find}
use Rattle.std.specs.List.{list_any}
use Rattle.std.specs.Option.{option_map}
use Rattle.std.proofs.lemmas.Bool.{cases_Bool}
use Rattle.std.proofs.lemmas.Grind.{common_steps}
use Rattle.std.proofs.lemmas.Option.{slice_get-map}
use Rattle.px_cluster.specs.Book.{Replica}
use Rattle.px_cluster.specs.Ids.{storage_id}
use Rattle.px_cluster.specs.Numbers.{first_of, is_one_of}
use Rattle.genbook.specs.Changes.{numbers_of}

-- the storages of these replicas
abbrev pub places : List Replica → List ℕ
places replicas = map (λ (replica : Replica). replica.storage) replicas

-- a storage is among those of the replicas that pass, where a replica on it passes
pub among_places : (test : Replica → Bool) (storage : ℕ) (replicas : List Replica)
    → list_any (λ (replica : Replica). (replica.storage == storage) && test replica) replicas ≡ is_one_of storage (places (filter test replicas))
among_places test storage [] = refl
among_places test storage (replica ∷ replicas) =
    elim (cases_Bool (test replica)) [
      | inl t ↦ rw (t, among_places test storage replicas) (grind (arith, common_steps))
      | inr f ↦ rw (f, among_places test storage replicas) (grind (arith, common_steps))
    ]

-- the storage of the first replica that passes
pub first_place : (test : Replica → Bool) (replicas : List Replica)
    → option_map (λ (replica : Replica). replica.storage) (find test replicas) ≡ first_of (places (filter test replicas))
first_place test [] = refl
first_place test (replica ∷ replicas) =
    elim (cases_Bool (test replica)) [
      | inl t ↦ rw t refl
      | inr f ↦ rw f (first_place test replicas)
    ]

-- the storage of a place is that of the replica there
pub place_got : (replicas : List Replica) (place : ℕ)
    → slice_get (places replicas) place ≡ option_map (λ (replica : Replica). replica.storage) (slice_get replicas place)
place_got replicas place = slice_get-map (λ (replica : Replica). replica.storage) replicas place

-- a secondary: it passes, and is not on the primary
abbrev pub is_secondary : (Replica → Bool) → ℕ → Replica → Bool
is_secondary test primary replica = not (replica.storage == primary) && test replica

pub others_of : (test : Replica → Bool) (primary : ℕ) (replicas : List Replica)
    → places (filter (is_secondary test primary) replicas) ≡ filter (λ storage. not (storage == primary)) (places (filter test replicas))
others_of test primary [] = refl
others_of test primary (replica ∷ replicas) =
    elim (cases_Bool (test replica)) [
      | inl t ↦
          elim (cases_Bool (replica.storage == primary)) [
            | inl s ↦ rw (t, s) (others_of test primary replicas)
            | inr g ↦ rw (t, g) (ap (λ (rest : List ℕ). replica.storage ∷ rest) (others_of test primary replicas))
          ]
      | inr f ↦
          elim (cases_Bool (replica.storage == primary)) [
            | inl s ↦ rw (f, s) (others_of test primary replicas)
            | inr g ↦ rw (f, g) (others_of test primary replicas)
          ]
    ]

-- the numbers of storages that are named by the replicas on them
pub numbers_of_places : (replicas : List Replica) → numbers_of (map (λ (replica : Replica). storage_id replica.storage) replicas) ≡ places replicas
numbers_of_places [] = refl
numbers_of_places (replica ∷ replicas) = ap (λ (rest : List ℕ). replica.storage ∷ rest) (numbers_of_places replicas)
