-- What is read of a book after some of its replicas changed.
use Rattle.std.proofs.Common.{◌≡◌, ℕ, ◌==◌, zero, suc, List, [], ◌∷◌, Bool, true, false, if◌then◌else◌, None, Some, refl, sym, ◌∙◌, ap, ◌+◌, ◌⊎◌, inl, inr, find, is_some, map, slice_get, set, arith}
use Rattle.std.specs.Option.{option_map}
use Rattle.px_cluster.specs.Book.{Replica, Repository, Storage, has_replica_on, is_of, is_on, replica_on, storages_of, with_replica_on, with_replicas}
use Rattle.px_cluster.specs.Numbers.{is_one_of, places_from}
use Rattle.cluster_form.specs.Books.{IsDense}
use Rattle.cluster_form.proofs.Lists.{bool, same_number, bytes_same, some_is}

-- the change leaves each replica on its storage
abbrev pub KeepsStorage : (Replica → Replica) → Type 0
KeepsStorage change = (replica : Replica) → (change replica).storage ≡ replica.storage

-- ---- each replica changed

found_changed : (change : Replica → Replica) → KeepsStorage change → (storage : ℕ)
    → (replicas : List Replica) → find (is_on storage) (map change replicas)
    ≡ option_map change (find (is_on storage) replicas)
found_changed change keeps storage [] = refl
found_changed change keeps storage (x ∷ xs) = elim (bool (x.storage == storage)) [
  | inl holds ↦ (let also = ap (λ n. n == storage) (keeps x) ∙ holds in rw also (rw holds refl))
  | inr fails ↦ (let also = ap (λ n. n == storage) (keeps x) ∙ fails in
      rw also (rw fails (found_changed change keeps storage xs)))
]

pub each_changed : (change : Replica → Replica) → KeepsStorage change → (book : Repository)
    → (storage : ℕ) → replica_on (with_replicas change book) storage
    ≡ option_map change (replica_on book storage)
each_changed change keeps book storage = found_changed change keeps storage book.replicas

-- ---- the replica on one storage changed

changed_at : (change : Replica → Replica) → KeepsStorage change → (storage : ℕ)
    → (replicas : List Replica)
    → find (is_on storage)
    (map (λ (r : Replica). if is_on storage r then change r else r) replicas)
    ≡ option_map change (find (is_on storage) replicas)
changed_at change keeps storage [] = refl
changed_at change keeps storage (x ∷ xs) = elim (bool (x.storage == storage)) [
  | inl holds ↦ (let also = ap (λ n. n == storage) (keeps x) ∙ holds in
      rw holds (rw also refl))
  | inr fails ↦ (rw fails (rw fails (changed_at change keeps storage xs)))
]

pub changed_here : (change : Replica → Replica) → KeepsStorage change → (book : Repository)
    → (storage : ℕ) → replica_on (with_replica_on storage change book) storage
    ≡ option_map change (replica_on book storage)
changed_here change keeps book storage = changed_at change keeps storage book.replicas

changed_not_at : (change : Replica → Replica) → KeepsStorage change → (storage other : ℕ)
    → (other ≡ storage → ⊥) → (replicas : List Replica)
    → find (is_on other)
    (map (λ (r : Replica). if is_on storage r then change r else r) replicas)
    ≡ find (is_on other) replicas
changed_not_at change keeps storage other differs [] = refl
changed_not_at change keeps storage other differs (x ∷ xs) = elim (bool (x.storage == storage)) [
  | inl holds ↦ elim (bool (x.storage == other)) [
    | inl also ↦ absurd (differs (sym (same_number x.storage other also)
        ∙ same_number x.storage storage holds))
    | inr fails ↦ (let too = ap (λ n. n == other) (keeps x) ∙ fails in
        rw holds (rw too (rw fails (changed_not_at change keeps storage other differs xs))))
  ]
  | inr fails ↦ elim (bool (x.storage == other)) [
    | inl holds ↦ (rw fails (rw holds refl))
    | inr not ↦ (rw fails (rw not (changed_not_at change keeps storage other differs xs)))
  ]
]

pub changed_elsewhere : (change : Replica → Replica) → KeepsStorage change → (book : Repository)
    → (storage other : ℕ) → (other ≡ storage → ⊥)
    → replica_on (with_replica_on storage change book) other ≡ replica_on book other
changed_elsewhere change keeps book storage other differs =
    changed_not_at change keeps storage other differs book.replicas

-- ---- lists by dense numbers

pub got_set : {A : Type 0} (xs : List A) (i : ℕ) (old new : A) → slice_get xs i ≡ Some old
    → slice_get (set xs i new) i ≡ Some new
got_set [] i old new there = absurd (let z : None ≡ Some old = there in cc)
got_set (x ∷ xs) zero old new there = refl
got_set (x ∷ xs) (suc i) old new there = got_set xs i old new there

pub got_other : {A : Type 0} (xs : List A) (i j : ℕ) (new : A) → (j ≡ i → ⊥)
    → slice_get (set xs i new) j ≡ slice_get xs j
got_other [] i j new differs = refl
got_other (x ∷ xs) zero zero new differs = absurd (differs refl)
got_other (x ∷ xs) zero (suc j) new differs = refl
got_other (x ∷ xs) (suc i) zero new differs = refl
got_other (x ∷ xs) (suc i) (suc j) new differs = got_other xs i j new (λ same. differs (ap suc same))

-- ---- whose storage it is

-- a replica that is found is on that storage
pub found_on : (storage : ℕ) (replicas : List Replica) (replica : Replica)
    → find (is_on storage) replicas ≡ Some replica → replica.storage ≡ storage
found_on storage [] replica is = absurd (let z : None ≡ Some replica = is in cc)
found_on storage (x ∷ xs) replica is = elim (bool (x.storage == storage)) [
  | inl holds ↦ (let one : Some x ≡ Some replica = rw holds at is in
      let same = some_is x replica one in
      ap (λ (r : Replica). r.storage) (sym same) ∙ same_number x.storage storage holds)
  | inr fails ↦ found_on storage xs replica (rw fails at is)
]

-- there is a replica exactly on the storages of the replicas
pub there_is_one : (storage : ℕ) (replicas : List Replica)
    → is_some (find (is_on storage) replicas)
    ≡ is_one_of storage (map (λ (r : Replica). r.storage) replicas)
there_is_one storage [] = refl
there_is_one storage (x ∷ xs) = elim (bool (x.storage == storage)) [
  | inl holds ↦ (rw holds refl)
  | inr fails ↦ (rw fails (there_is_one storage xs))
]

-- ---- whose virtual storage it is

-- a place of a test, counted from a number, is of an element that passes it
pub record IsPassed (test : Storage → Bool) (n : ℕ) (storages : List Storage) (place : ℕ)
    : Type 0 where
  pub offset : ℕ
  pub known : Storage
  pub is : place ≡ n + offset
  pub there : slice_get storages offset ≡ Some known
  pub passes : test known ≡ true

later_passed : (test : Storage → Bool) (n : ℕ) (x : Storage) (xs : List Storage) (place : ℕ)
    → IsPassed test (n + 1) xs place → IsPassed test n (x ∷ xs) place
later_passed test n x xs place found = record {
  offset = suc found.offset;
  known = found.known;
  is = (let at = found.is in omega (arith, at));
  there = found.there;
  passes = found.passes;
}

-- it is the first place, or a later one
one_more : (n place : ℕ) (ns : List ℕ) → is_one_of place (n ∷ ns) ≡ true
    → ((n ≡ place) ⊎ (is_one_of place ns ≡ true))
one_more n place ns is = elim (bool (n == place)) [
  | inl here ↦ inl (same_number n place here)
  | inr fails ↦ inr (rw fails at is)
]

place_passes : (test : Storage → Bool) (n : ℕ) (storages : List Storage) (place : ℕ)
    → is_one_of place (places_from n test storages) ≡ true → IsPassed test n storages place
place_passes test n [] place is = absurd (let z : false ≡ true = is in cc)
place_passes test n (x ∷ xs) place is = elim (bool (test x)) [
  | inl holds ↦ elim (one_more n place (places_from (n + 1) test xs) (rw holds at is)) [
    | inl here ↦ record {
      offset = 0;
      known = x;
      is = omega (arith, here);
      there = refl;
      passes = holds;
    }
    | inr rest ↦ later_passed test n x xs place (place_passes test (n + 1) xs place rest)
  ]
  | inr fails ↦ later_passed test n x xs place
      (place_passes test (n + 1) xs place (rw fails at is))
]

-- two repositories that have a replica on one storage are of one virtual storage
pub one_virt : (storages : List Storage) (a b : Repository) (storage : ℕ) → IsDense storages a
    → IsDense storages b → has_replica_on a storage ≡ true → has_replica_on b storage ≡ true
    → a.virt ≡ b.virt
one_virt storages a b storage dense also here there =
    let first = place_passes (is_of a.virt) 0 storages storage (among a dense here) in
    let second = place_passes (is_of b.virt) 0 storages storage (among b also there) in
    let same_place : first.offset ≡ second.offset =
    (let x = first.is in let y = second.is in omega (arith, x, y)) in
    let same : first.known ≡ second.known = some_is first.known second.known
    (sym first.there ∙ ap (slice_get storages) same_place ∙ second.there) in
    sym (bytes_same first.known.virt a.virt first.passes) ∙ ap (λ (s : Storage). s.virt) same
    ∙ bytes_same second.known.virt b.virt second.passes
  where
    among : (book : Repository) → IsDense storages book → has_replica_on book storage ≡ true
        → is_one_of storage (storages_of storages book.virt) ≡ true
    among book dense_ is = ap (is_one_of storage) (sym dense_)
        ∙ sym (there_is_one storage book.replicas) ∙ is
