-- Which storages a repository is assigned to: some one, and none that is not admitted yet.
use Rattle.std.proofs.Common.{◌≡◌, ◌==◌, ◌+◌, ◌<◌, ◌≤◌, ℕ, List, [], ◌∷◌, true, false, Option, None, Some, refl, sym, ◌∙◌, ap, inl, inr, find, is_some, length, map, arith}
use Rattle.std.specs.List.{list_any}
use Rattle.px_cluster.specs.Book.{Replica, Repository, Storage, has_replica_on, is_assigned, is_assigned_in, is_of, is_on, storages_of}
use Rattle.px_cluster.specs.Numbers.{is_one_of}
use Rattle.cluster_form.proofs.Lists.{all_such, bool, same_number, same_self}
use Rattle.cluster_form.proofs.OneOf.{one_has}
use Rattle.cluster_form.proofs.Panels.{distinct_rising, places_within}
use Rattle.cluster_form.proofs.PlannedJobs.{storages_rise}
use Rattle.cluster_form.specs.Books.{HasAssigned, IsDense, storages_in}
use Rattle.cluster_form.specs.Turns.{AreDistinct}
use Rattle.cluster_history.proofs.Books.{there_is_one}

-- a replica that is assigned is found on its storage
some_among : (replicas : List Replica) → AreDistinct (map (λ (r : Replica). r.storage) replicas)
    → list_any (λ (r : Replica). r.assigned) replicas ≡ true
    → (storage : ℕ) × (is_assigned_in (find (is_on storage) replicas) ≡ true)
some_among [] distinct has = absurd (let z : false ≡ true = has in cc)
some_among (r ∷ rs) distinct has = elim (bool r.assigned) [
  | inl holds ↦ (r.storage, (rw (same_self r.storage) holds))
  | inr fails ↦ (let rest = some_among rs distinct.1 (rw fails at has) in
      (rest.0, (rw (other rest.0 rest.1) rest.1)))
]
  where
    found : (there : Option Replica) → is_assigned_in there ≡ true → is_some there ≡ true
    found None is = absurd (let z : false ≡ true = is in cc)
    found (Some x) is = refl

    other : (storage : ℕ) → is_assigned_in (find (is_on storage) rs) ≡ true
        → (r.storage == storage) ≡ false
    other storage is = elim (bool (r.storage == storage)) [
      | inl holds ↦ absurd (let z : true ≡ false =
          sym (found (find (is_on storage) rs) is) ∙ there_is_one storage rs
          ∙ ap (λ n. is_one_of n (map (λ (x : Replica). x.storage) rs))
          (sym (same_number r.storage storage holds)) ∙ distinct.0 in cc)
      | inr fails ↦ fails
    ]

module _ (storages : List Storage) (book : Repository) (dense : IsDense storages book) where
  -- some storage is assigned
  pub some_assigned : HasAssigned book → (storage : ℕ) × (is_assigned book storage ≡ true)
  some_assigned has = some_among book.replicas
      (distinct_rising (storages_in book) (storages_rise storages book dense)) has

  -- a replica is on a storage that was admitted
  pub replica_below : (storage : ℕ) → has_replica_on book storage ≡ true
      → storage < length storages
  replica_below storage is =
      one_has (λ n. n < length storages) (storages_of storages book.virt) storage
      (all_such (λ n. n < 0 + length storages) _ (storages_of storages book.virt)
      (λ n within. omega (arith, within)) (places_within 0 (is_of book.virt) storages))
      (ap (is_one_of storage) (sym dense) ∙ sym (there_is_one storage book.replicas) ∙ is)

  -- none is that was not admitted yet
  pub none_beyond : (storage : ℕ) → length storages ≤ storage → is_assigned book storage ≡ false
  none_beyond storage beyond = elim (bool (has_replica_on book storage)) [
    | inl holds ↦ absurd (let within = replica_below storage holds in omega (arith, within, beyond))
    | inr fails ↦ unfound _ fails
  ]
    where
      unfound : (there : Option Replica) → is_some there ≡ false → is_assigned_in there ≡ false
      unfound None is = refl
      unfound (Some x) is = absurd (let z : true ≡ false = is in cc)
