-- A storage that is searched for among storages that stand by number.
use Rattle.std.proofs.Common.{◌≡◌, ◌⊎◌, ◌<◌, ◌≤◌, ◌==◌, ℕ, zero, suc, List, [], ◌∷◌, length, get_or, Bool, true, false, Result, Ok, Err, is_ok, sym, ◌∙◌, ⊎_elim, inl, inr, arith}
use Rattle.std.specs.List.{AllByRecursion, AllWithin, list_any}
use Rattle.std.specs.List.Sorted.{IsBinarySearchResult, IsSearchInRange}
use Rattle.std.specs.Ordering.{nat_cmp, ordering_index}
use Rattle.std.specs.declared.cmp.Ordering.TheVariants.{Less, Equal, Greater}
use Rattle.std.proofs.lemmas.Bool.Decides.{nat_tests}
use Rattle.std.proofs.lemmas.List.Folds.{list_any_at, list_any_none}
use Rattle.px_base.specs.declared.ids.StorageId.{StorageId}
use Rattle.px_cluster.specs.Numbers.{is_one_of}
use Rattle.genbook.specs.Changes.{AreAscending, numbers_of}
use Rattle.genbook.proofs.Storages.{among_numbers}

-- the order in which a search looks does not fall where the numbers rise
order_keeps : (a b n : ℕ) → a ≤ b → ordering_index (nat_cmp a n) ≤ ordering_index (nat_cmp b n)
order_keeps a b n below = grind (arith, nat_tests)

-- a storage is not below one before it
not_below : (storages : List StorageId) → AreAscending (numbers_of storages)
    → (i j : ℕ) (d : StorageId) → i ≤ j → j < length storages
    → (get_or storages i d).0 ≤ (get_or storages j d).0
not_below [] rise i j d order within = absurd (omega (arith, within))
not_below (storage ∷ storages) rise zero zero d order within = omega arith
not_below (storage ∷ storages) rise zero (suc j) d order within =
    later storages rise.0 j (omega (arith, within))
  where
    later : (others : List StorageId)
        → AllByRecursion (λ other. storage.0 < other) (numbers_of others)
        → (k : ℕ) → k < length others → storage.0 ≤ (get_or others k d).0
    later [] all k within = absurd (omega (arith, within))
    later (other ∷ others) all zero within = omega (arith, all.0)
    later (other ∷ others) all (suc k) within = later others all.1 k (omega (arith, within))
not_below (storage ∷ storages) rise (suc i) zero d order within = absurd (omega (arith, order))
not_below (storage ∷ storages) rise (suc i) (suc j) d order within =
    not_below storages rise.1 i j d (omega (arith, order)) (omega (arith, within))

-- where the order is equal, so are the numbers, and else they are not
equal_is : (a n : ℕ) → nat_cmp a n ≡ Equal → (a == n) ≡ true
equal_is a n is = grind (arith, nat_tests, is)

less_differs : (a n : ℕ) → nat_cmp a n ≡ Less → (a == n) ≡ false
less_differs a n is = grind (arith, nat_tests, is)

greater_differs : (a n : ℕ) → nat_cmp a n ≡ Greater → (a == n) ≡ false
greater_differs a n is = grind (arith, nat_tests, is)

module _ (storages : List StorageId) (storage : StorageId) (rise : AreAscending (numbers_of storages)) where
  abbrev is_it : StorageId → Bool
  is_it other = other.0 == storage.0

  none_there : (i : ℕ) → AllWithin (λ (other : StorageId). nat_cmp other.0 storage.0 ≡ Less) storages 0 i
      → AllWithin (λ (other : StorageId). nat_cmp other.0 storage.0 ≡ Greater) storages i (length storages)
      → list_any is_it storages ≡ false
  none_there i below above = list_any_none is_it storages (λ k d within.
      ⊎_elim
      (λ before. less_differs (get_or storages k d).0 storage.0 (below k d (omega arith) before))
      (λ after_. greater_differs (get_or storages k d).0 storage.0 (above k d after_ within))
      (less_or_not k i))
    where
      less_or_not : (k i : ℕ) → (k < i) ⊎ (i ≤ k)
      less_or_not k zero = inr (omega arith)
      less_or_not zero (suc i) = inl (omega arith)
      less_or_not (suc k) (suc i) = ⊎_elim (λ l. inl (omega (arith, l))) (λ g. inr (omega (arith, g))) (less_or_not k i)

  pub among_searched : (r : Result ℕ ℕ) → IsSearchInRange r (length storages)
      → IsBinarySearchResult (λ (other : StorageId). nat_cmp other.0 storage.0) storages r
      → is_ok r ≡ is_one_of storage.0 (numbers_of storages)
  among_searched (Ok i) within holds =
      sym (list_any_at is_it storages i storage within
      (equal_is (get_or storages i storage).0 storage.0 (holds storage)))
      ∙ among_numbers storage.0 storages
  among_searched (Err i) within point =
      let parts = point (λ k j d order before. order_keeps (get_or storages k d).0 (get_or storages j d).0 storage.0
      (not_below storages rise k j d order before)) in
      sym (none_there i parts.0 parts.1) ∙ among_numbers storage.0 storages
