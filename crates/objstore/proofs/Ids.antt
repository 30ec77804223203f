-- Ids, and which of them stand in a list.
use Rattle.std.proofs.Common.{◌≡◌, ◌≢◌, true, false, ◌⊎◌, List, [], ◌∷◌, sym, ap, ◌∙◌, subst, inl, inr, ⊎_elim}
use Rattle.std.specs.Cmp.{IsEquivalence, eq_by_cmp_equiv}
use Rattle.std.specs.List.{Contains}
use Rattle.std.proofs.lemmas.Bool.{false_from_ne_true, false≢true, or_cases, or_left, or_right}
use Rattle.std.proofs.lemmas.List.Folds.{Any-from_list_any, list_any_at}
use Rattle.std.proofs.Math.ListN.{get_or}
use Rattle.px_base.proofs.HashOrder.{hash_cmp_total, one_by_order}
use Rattle.px_base.specs.declared.hash.Hash.{Hash}
use Rattle.objstore.specs.Entries.{is_id, is_among}

-- the test of ids is an equivalence
pub ids_laws : IsEquivalence is_id
ids_laws = eq_by_cmp_equiv hash_cmp_total

-- ids that pass it are one
pub one_id : (a b : Hash) → is_id a b ≡ true → a ≡ b
one_id = one_by_order

-- ids that differ do not
pub other_id : (a b : Hash) → b ≢ a → is_id a b ≡ false
other_id a b differ = false_from_ne_true _ (λ passes. differ (sym (one_id a b passes)))

-- what stands in a list is found there
pub among_from_Contains : (ids : List Hash) (id : Hash) → Contains ids id → is_among id ids ≡ true
among_from_Contains ids id stands =
    list_any_at (is_id id) ids stands.0 id stands.1 (ap (is_id id) stands.2 ∙ ids_laws.refl id)

-- what is found in a list stands there
pub Contains_from_among : (ids : List Hash) (id : Hash) → is_among id ids ≡ true → Contains ids id
Contains_from_among ids id found =
    let at = Any-from_list_any (is_id id) ids found in
    (at.0, at.2, subst (λ (x : Hash). get_or ids at.0 x ≡ x) (sym (one_id id at.1 at.4)) at.3)

-- the first id of a list stands in it
pub Contains-first : (x : Hash) (xs : List Hash) → Contains (x ∷ xs) x
Contains-first x xs = Contains_from_among (x ∷ xs) x (or_left _ _ (ids_laws.refl x))

-- and so does each later one
pub Contains-later : (x : Hash) (xs : List Hash) (id : Hash) → Contains xs id → Contains (x ∷ xs) id
Contains-later x xs id stands =
    Contains_from_among (x ∷ xs) id (or_right _ _ (among_from_Contains xs id stands))

-- and no other
pub Contains-cases : (x : Hash) (xs : List Hash) (id : Hash) → Contains (x ∷ xs) id
    → (x ≡ id) ⊎ Contains xs id
Contains-cases x xs id stands =
    ⊎_elim (λ t. inl (sym (one_id id x t))) (λ t. inr (Contains_from_among xs id t))
    (or_cases _ _ (among_from_Contains (x ∷ xs) id stands))

-- what stands in a list stands in an equal one
pub Contains-same : {xs ys : List Hash} (id : Hash) → xs ≡ ys → Contains xs id → Contains ys id
Contains-same id same = subst (λ (ids : List Hash). Contains ids id) same

-- nothing stands in the empty list
pub none_stands : (id : Hash) → Contains [] id → ⊥
none_stands id stands = false≢true (among_from_Contains [] id stands)
