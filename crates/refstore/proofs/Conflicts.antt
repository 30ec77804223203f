-- The least name that is in conflict with another: the shortest above it, or else the least under it.
use Rattle.std.proofs.Common.{◌≡◌, ℕ, ◌+◌, ◌<◌, ◌≤◌, List, [], ◌∷◌, ◌++◌, true, false, Bool, Option, Some, None, refl, sym, ap, ◌∙◌, subst, ◌⊎◌, ⊎_elim, length, take, slice_get, arith}
use Rattle.std.specs.List.{starts_with}
use Rattle.std.specs.List.Sorted.{IsStrictlySortedBy}
use Rattle.std.specs.Map.{keys_of}
use Rattle.std.specs.Option.{IsSome, is_some}
use Rattle.std.specs.Prelude.{nat_eq, MatchOption, Result, Ok, Err, IfOk}
use Rattle.std.specs.declared.alloc.AllocError.{AllocError}
use Rattle.std.specs.Ordering.{is_gt, ordering_reverse}
use Rattle.std.proofs.lemmas.Bool.{cases_lt, false_from_ne_true, or_cases, or_left, or_right}
use Rattle.px_base.specs.declared.hash.Hash.{Hash}
use Rattle.px_base.specs.RefList.{References, is_in_conflict, is_under, name_cmp, ref_at}
use Rattle.refstore.proofs.Least.{among_from_there, find-least, find-none, there_from_among}
use Rattle.refstore.proofs.Names.{names_total}
use Rattle.refstore.proofs.Under.{Begins, Begins-bare, Begins-between, Begins-from_test, Begins-not_below, Begins-on, Begins-slash, ends_at_slash, take_take, test_from_Begins}
use Rattle.refstore.specs.Conflicts.{IsLeastAbove, IsLeastUnder, NoneAbove, NoneBefore, NoneUnder}
use Rattle.refstore.specs.RefMap.{AllBelow, IsLeastFrom}
use Rattle.refstore.specs.Updates.{least_conflict}

-- a test of whether one begins with the other and a slash tells whether it is under it
pub tested : (whole front found name : List ℕ) (result value : Bool)
    → result ≡ starts_with nat_eq whole front → whole ≡ found → front ≡ name ++ 47 ∷ []
    → result ≡ value → is_under found name ≡ value
tested whole front found name result value test same is told =
    sym (test ∙ ap (λ (s : List ℕ). starts_with nat_eq s front) same
    ∙ ap (λ (s : List ℕ). starts_with nat_eq found s) is)
    ∙ told

module _ (refs : References) (name : List ℕ) where
  -- a name of which this one is the rest is not there, where none above it is
  not_above : NoneAbove refs name → (q : List ℕ) → IsSome (ref_at refs q)
      → is_under name q ≡ true → ⊥
  not_above none q there under =
      let e = ends_at_slash name q (Begins-from_test name (q ++ 47 ∷ []) under) in
      let gone : ref_at refs q ≡ None =
      ap (ref_at refs) (sym e.is) ∙ none (length q) e.slash in
      let some : is_some (ref_at refs q) ≡ false = ap is_some gone in
      cc

  pub least_conflict-above : (above : List ℕ) → IsStrictlySortedBy name_cmp (keys_of refs)
      → IsLeastAbove refs name above → least_conflict refs name ≡ Some above
  least_conflict-above above sorted found =
      find-least (is_in_conflict name) (keys_of refs) above sorted
      (among_from_there refs above found.there)
      (or_left _ _ (test_from_Begins name (above ++ 47 ∷ []) begins))
      (λ q among passes. least q (there_from_among refs q among) (or_cases _ _ passes))
    where
      begins : Begins name (above ++ 47 ∷ [])
      begins = subst (λ (s : List ℕ). Begins name (s ++ 47 ∷ [])) (sym found.is)
          (Begins-slash name found.place found.slash)

      -- one above it that is there is no shorter
      among_above : (q : List ℕ) → IsSome (ref_at refs q) → is_under name q ≡ true
          → is_gt (name_cmp above q) ≡ false
      among_above q there under =
          let e = ends_at_slash name q (Begins-from_test name (q ++ 47 ∷ []) under) in
          ⊎_elim
          (λ (shorter : length q < found.place). absurd (
          let gone : ref_at refs q ≡ None =
          ap (ref_at refs) (sym e.is) ∙ found.shortest (length q) shorter e.slash in
          let some : is_some (ref_at refs q) ≡ false = ap is_some gone in
          cc))
          (λ (longer : found.place ≤ length q). Begins-not_below q above
          (subst (λ (s : List ℕ). Begins q s) (sym found.is)
          (subst (λ (s : List ℕ). Begins s (take found.place name)) e.is
          (take_take name found.place (length q) longer))))
          (cases_lt (length q) found.place)

      least : (q : List ℕ) → IsSome (ref_at refs q)
          → (is_under name q ≡ true) ⊎ (is_under q name ≡ true) → is_gt (name_cmp above q) ≡ false
      least q there which = ⊎_elim
          (λ over. among_above q there over)
          (λ under. Begins-not_below q above (Begins-on q name above
          (Begins-bare q name (Begins-from_test q (name ++ 47 ∷ []) under))
          (Begins-bare name above begins)))
          which

  pub least_conflict-under : (under : List ℕ) → IsStrictlySortedBy name_cmp (keys_of refs)
      → NoneAbove refs name → IsLeastUnder refs name under → least_conflict refs name ≡ Some under
  least_conflict-under under sorted none found =
      find-least (is_in_conflict name) (keys_of refs) under sorted
      (among_from_there refs under found.there) (or_right _ _ found.is)
      (λ q among passes. ⊎_elim
      (λ over. absurd (not_above none q (there_from_among refs q among) over))
      (λ below. found.least q (there_from_among refs q among) below)
      (or_cases _ _ passes))

  pub least_conflict-none : NoneAbove refs name → NoneUnder refs name
      → least_conflict refs name ≡ None
  least_conflict-none above under =
      find-none (is_in_conflict name) (keys_of refs) (λ q among. false_from_ne_true _
      (λ passes. ⊎_elim
      (λ over. not_above above q (there_from_among refs q among) over)
      (λ below. let not : is_under q name ≡ false =
      under q (there_from_among refs q among) in absurd (cc))
      (or_cases _ _ passes)))

  -- ---- what the first name that is not below the name and a slash tells

  module _ (front : List ℕ) (is_front : front ≡ name ++ 47 ∷ []) where
    -- a name under this one begins with the two
    begins_front : (q : List ℕ) → is_under q name ≡ true → Begins q front
    begins_front q under =
        subst (λ (s : List ℕ). Begins q s) (sym is_front)
        (Begins-from_test q (name ++ 47 ∷ []) under)

    -- where all are below them, none is under the name
    pub none_under : AllBelow refs front → NoneUnder refs name
    none_under below q there = false_from_ne_true _ (λ under. absurd (
        let not : is_gt (name_cmp front q) ≡ false = Begins-not_below q front (begins_front q under) in
        let is : is_gt (name_cmp front q) ≡ true =
        ap is_gt (names_total.antisymm front q ∙ ap ordering_reverse (below q there)) in
        cc))

    module _ (first : List ℕ) (is : IsLeastFrom refs front first) where
      -- it is not above any that is under the name
      least : (q : List ℕ) → IsSome (ref_at refs q) → is_under q name ≡ true
          → is_gt (name_cmp first q) ≡ false
      least q there under = is.least q there (Begins-not_below q front (begins_front q under))

      -- so it is the least of them, if it is one
      pub least_under : is_under first name ≡ true → IsLeastUnder refs name first
      least_under under = record { there = is.there; is = under; least = least }

      -- and else there is none
      pub none_under_first : is_under first name ≡ false → NoneUnder refs name
      none_under_first apart q there = false_from_ne_true _ (λ under. absurd (
          let begins : Begins first front =
          Begins-between front first q is.behind (least q there under) (begins_front q under) in
          let t : is_under first name ≡ true =
          test_from_Begins first (name ++ 47 ∷ [])
          (subst (λ (s : List ℕ). Begins first s) is_front begins) in
          cc))

-- ---- what the readers of the code tell

-- there is none where the test says so
pub none_from_test : (found : Option Hash) → is_some found ≡ false → found ≡ None
none_from_test None t = refl
none_from_test (Some id) t = absurd (cc)

-- no name that ends before one of the slashes so far is there, nor one that ends here
pub none_more : (refs : References) (name : List ℕ) (place : ℕ) → NoneBefore refs name place
    → (slice_get name place ≡ Some 47 → ref_at refs (take place name) ≡ None)
    → NoneBefore refs name (place + 1)
none_more refs name place none here k before slash = ⊎_elim
    (λ (earlier : k < place). none k earlier slash)
    (λ (late : place ≤ k).
    let e : k ≡ place = omega arith in
    subst (λ (n : ℕ). ref_at refs (take n name) ≡ None) (sym e)
    (here (subst (λ (n : ℕ). slice_get name n ≡ Some 47) e slash)))
    (cases_lt k place)

module _ (refs : References) (name : List ℕ) (sorted : IsStrictlySortedBy name_cmp (keys_of refs))
  where
    pub told_above : (found : Option (List ℕ)) (above : List ℕ)
        → MatchOption found (NoneAbove refs name) (λ a. IsLeastAbove refs name a)
        → found ≡ Some above → Some above ≡ least_conflict refs name
    told_above found above told is =
        sym (least_conflict-above refs name above sorted
        (subst (λ (o : Option (List ℕ)).
        MatchOption o (NoneAbove refs name) (λ a. IsLeastAbove refs name a)) is told))

    pub told_none : (found : Option (List ℕ))
        → MatchOption found (NoneAbove refs name) (λ a. IsLeastAbove refs name a)
        → found ≡ None → NoneAbove refs name
    told_none found told is =
        subst (λ (o : Option (List ℕ)).
        MatchOption o (NoneAbove refs name) (λ a. IsLeastAbove refs name a)) is told

    pub told_under : NoneAbove refs name → (result : Result (Option (List ℕ)) AllocError)
        → IfOk result (λ found. MatchOption found (NoneUnder refs name)
        (λ under. IsLeastUnder refs name under))
        → IfOk result (λ found. found ≡ least_conflict refs name)
    told_under above (Ok (Some under)) told =
        sym (least_conflict-under refs name under sorted above told)
    told_under above (Ok None) told = sym (least_conflict-none refs name above told)
    told_under above (Err e) told = tt
