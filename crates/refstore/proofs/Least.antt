-- The first name in order that passes a test.
use Rattle.std.proofs.Common.{◌≡◌, ℕ, List, [], ◌∷◌, true, false, Some, None, refl, sym, ap, ◌∙◌, subst, ⊎_elim}
use Rattle.std.specs.List.{AllByRecursion, find}
use Rattle.std.specs.List.Sorted.{IsStrictlySortedBy}
use Rattle.std.specs.Map.{keys_of}
use Rattle.std.specs.Option.{IsSome}
use Rattle.std.specs.Ordering.{is_gt, ordering_reverse}
use Rattle.std.specs.Prelude.{Bool}
use Rattle.std.specs.declared.cmp.Ordering.TheVariants.{Less, Greater}
use Rattle.std.proofs.lemmas.Bool.{cases_Bool, or_cases, or_left, or_right}
use Rattle.std.proofs.lemmas.Map.Made.{is_some-lookup}
use Rattle.px_base.specs.RefList.{References, is_name, name_cmp, ref_at}
use Rattle.refstore.proofs.Names.{names_laws, names_total, one_name}
use Rattle.refstore.specs.Updates.{is_among}

-- a name that is there is one of the names, and no other is
pub among_from_there : (refs : References) (name : List ℕ) → IsSome (ref_at refs name)
    → is_among name (keys_of refs) ≡ true
among_from_there refs name there = sym (is_some-lookup (is_name name) refs) ∙ there

pub there_from_among : (refs : References) (name : List ℕ) → is_among name (keys_of refs) ≡ true
    → IsSome (ref_at refs name)
there_from_among refs name among = is_some-lookup (is_name name) refs ∙ among

-- what holds of all names holds of each that is among them
pub all_among : (P : List ℕ → Type 0) (names : List (List ℕ)) (name : List ℕ)
    → AllByRecursion P names → is_among name names ≡ true → P name
all_among P [] name all among = absurd (cc)
all_among P (first ∷ names) name all among = ⊎_elim
    (λ t. subst P (sym (one_name name first t)) all.0)
    (λ t. all_among P names name all.1 t)
    (or_cases _ _ among)

module _ (test : List ℕ → Bool) where
  -- none passes
  pub find-none : (names : List (List ℕ))
      → ((q : List ℕ) → is_among q names ≡ true → test q ≡ false) → find test names ≡ None
  find-none [] none = refl
  find-none (name ∷ names) none =
      rw (none name (or_left _ _ (names_laws.refl name)))
      (find-none names (λ q among. none q (or_right _ _ among)))

  -- where none is found, none of them passes
  pub none_found : (names : List (List ℕ)) (q : List ℕ) → find test names ≡ None
      → is_among q names ≡ true → test q ≡ false
  none_found [] q none among = absurd (cc)
  none_found (name ∷ names) q none among = ⊎_elim
      (λ t. absurd (let some : find test (name ∷ names) ≡ Some name = rw t refl in cc))
      (λ f. ⊎_elim
      (λ same. subst (λ (n : List ℕ). test n ≡ false) (sym (one_name q name same)) f)
      (λ later. none_found names q (rw f at none) later)
      (or_cases _ _ among))
      (cases_Bool (test name))

  -- the least that passes
  pub find-least : (names : List (List ℕ)) (found : List ℕ) → IsStrictlySortedBy name_cmp names
      → is_among found names ≡ true → test found ≡ true
      → ((q : List ℕ) → is_among q names ≡ true → test q ≡ true → is_gt (name_cmp found q) ≡ false)
      → find test names ≡ Some found
  unfolding IsStrictlySortedBy
  find-least [] found sorted among passes least = absurd (cc)
  find-least (name ∷ names) found sorted among passes least = ⊎_elim
      (λ t. rw t (ap Some (first_is t)))
      (λ f. rw f (find-least names found sorted.1 (later f) passes
      (λ q there. least q (or_right _ _ there))))
      (cases_Bool (test name))
    where
      -- where the first passes, it is the least
      first_is : test name ≡ true → name ≡ found
      first_is t = ⊎_elim
          (λ same. sym (one_name found name same))
          (λ behind. absurd (
          let below : name_cmp name found ≡ Less =
          all_among (λ (q : List ℕ). name_cmp name q ≡ Less) names found sorted.0 behind in
          let above : name_cmp found name ≡ Greater =
          names_total.antisymm found name ∙ ap ordering_reverse below in
          let not : is_gt (name_cmp found name) ≡ false =
          least name (or_left _ _ (names_laws.refl name)) t in
          let is : is_gt (name_cmp found name) ≡ true = ap is_gt above in
          cc))
          (or_cases _ _ among)

      -- where it does not, the least is behind it
      later : test name ≡ false → is_among found names ≡ true
      later f = ⊎_elim
          (λ same. absurd (let t : test name ≡ true = subst (λ (q : List ℕ). test q ≡ true) (one_name found name same) passes in cc))
          (λ behind. behind)
          (or_cases _ _ among)
