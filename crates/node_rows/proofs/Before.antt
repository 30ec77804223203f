-- How many references stand before one.
use Rattle.std.proofs.Common.{◌≡◌, ◌<◌, ◌≤◌, ℕ, List, [], ◌∷◌, length, true, false, arith, sym, ap, ◌∙◌, subst, ⊎_elim}
use Rattle.std.specs.List.{AllByRecursion, list_any}
use Rattle.std.specs.List.Sorted.{IsStrictlySortedBy}
use Rattle.std.specs.Option.{IsSome}
use Rattle.std.specs.Ordering.{is_eq}
use Rattle.std.specs.declared.cmp.Ordering.TheVariants.{Less}
use Rattle.std.proofs.lemmas.Bool.{or_cases}
use Rattle.std.proofs.lemmas.Map.Keys.{IsDistinct-cons, IsDistinct-from_sorted}
use Rattle.std.proofs.lemmas.Map.Steps.{length-le_from_keys}
use Rattle.px_base.specs.RefList.{References, is_name, name_cmp, ref_at}
use Rattle.refstore.proofs.Names.{one_name, names_laws}

-- names of which this holds are those of references, and stand before the name
module _ (refs : References) (name : List ℕ) (P : List ℕ → Type 0)
    (is_there : (q : List ℕ) → P q → IsSome (ref_at refs q))
    (is_before : (q : List ℕ) → P q → name_cmp q name ≡ Less) where
  -- a name that is among them is that of a reference
  each_there : (others : List (List ℕ)) → AllByRecursion P others → (q : List ℕ)
      → list_any (is_name q) others ≡ true → IsSome (ref_at refs q)
  each_there [] all q among = absurd (cc)
  each_there (x ∷ xs) all q among = ⊎_elim
      (λ same. subst (λ (r : List ℕ). IsSome (ref_at refs r)) (sym (one_name q x same))
      (is_there x all.0))
      (λ later. each_there xs all.1 q later)
      (or_cases (is_name q x) (list_any (is_name q) xs) among)

  -- and the name is none of them
  each_apart : (others : List (List ℕ)) → AllByRecursion P others
      → AllByRecursion (λ (q : List ℕ). is_name name q ≡ false) others
  each_apart [] all = tt
  each_apart (x ∷ xs) all =
      (names_laws.symm name x ∙ ap is_eq (is_before x all.0), each_apart xs all.1)

  -- so with the name, where that has a reference too, they are no more than the references
  pub fewer_before : IsSome (ref_at refs name) → (others : List (List ℕ))
      → IsStrictlySortedBy name_cmp others → AllByRecursion P others
      → length others < length refs
  fewer_before there others ascend all =
      let most : length (name ∷ others) ≤ length refs =
      length-le_from_keys names_laws (name ∷ others) refs
      (IsDistinct-cons is_name name others (each_apart others all)
      (IsDistinct-from_sorted name_cmp others ascend))
      (λ q among. ⊎_elim
      (λ same. subst (λ (r : List ℕ). IsSome (ref_at refs r)) (sym (one_name q name same)) there)
      (λ later. each_there others all q later)
      (or_cases (is_name q name) (list_any (is_name q) others) among)) in
      omega (arith, most)
