-- Lists of keys and values whose keys ascend.
use Rattle.std.proofs.Common.{◌≡◌, ◌&&◌, T, List, [], ◌∷◌, Bool, true, false, Option, Some, cond, refl, sym, ap, ◌∙◌}
use Rattle.std.specs.Cmp.{IsTotalOrder}
use Rattle.std.specs.FinMap.Entries.{below_all, find, is_sorted, same_entries}
use Rattle.std.specs.List.{AllByRecursion}
use Rattle.std.specs.List.Sorted.{IsStrictlySortedBy}
use Rattle.std.specs.Map.{keys_of, lookup}
use Rattle.std.specs.Ordering.{eq_by_cmp}
use Rattle.std.specs.declared.cmp.Ordering.{Ordering}
use Rattle.std.specs.declared.cmp.Ordering.TheVariants.{Less}
use Rattle.std.proofs.lemmas.Map.Lookups.{CmpEqualImpliesEq}

module _ {K X : Type 0} (R : K → K → Ordering) where
  -- keys that are all above one pass std's test
  below_from_all : (key : K) (entries : List (K × X))
      → AllByRecursion (λ (q : K). R key q ≡ Less) (keys_of entries)
      → T (below_all R key entries)
  below_from_all key [] all = tt
  below_from_all key (e ∷ entries) all = rw all.0 (below_from_all key entries all.1)

  -- and so do keys that ascend
  sorted_from_ascends : (entries : List (K × X)) → IsStrictlySortedBy R (keys_of entries)
      → T (is_sorted R entries)
  unfolding IsStrictlySortedBy
  sorted_from_ascends [] ascends = tt
  sorted_from_ascends (e ∷ entries) ascends =
      at (below_all R e.0 entries) (below_from_all e.0 entries ascends.0)
      (sorted_from_ascends entries ascends.1)
    where
      at : (b : Bool) → T b → T (is_sorted R entries) → T (b && is_sorted R entries)
      at true first rest = rest
      at false first rest = first

  -- std's two words for what is found under a key say one thing
  find-is : (key : K) (entries : List (K × X))
      → find R key entries ≡ lookup (eq_by_cmp R key) entries
  find-is key [] = refl
  find-is key (e ∷ entries) =
      ap (cond {A = Option X} (eq_by_cmp R key e.0) (Some e.1)) (find-is key entries)

  -- two such lists that have the same under each key are one
  pub one_list : (total : IsTotalOrder R) → CmpEqualImpliesEq R → (entries others : List (K × X))
      → IsStrictlySortedBy R (keys_of entries) → IsStrictlySortedBy R (keys_of others)
      → ((key : K) → lookup (eq_by_cmp R key) entries ≡ lookup (eq_by_cmp R key) others)
      → entries ≡ others
  one_list total exact entries others ascends also same =
      same_entries R total exact entries others (sorted_from_ascends entries ascends)
      (sorted_from_ascends others also)
      (λ key. find-is key entries ∙ same key ∙ sym (find-is key others))
