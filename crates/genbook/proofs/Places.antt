-- The first place of what passes a test is where an index has it, if the index has each such place.
use Rattle.std.proofs.Common.{◌≡◌, ℕ, ◌+◌, ◌<◌, ◌++◌, zero, suc, List, [], ◌∷◌, length, drop, get_or, append_assoc, Bool, true, false, if◌then◌else◌, Option, None, Some, refl, sym, ◌∙◌, ap, subst, inl, inr, slice_get, arith}
use Rattle.std.proofs.lemmas.Bool.{cases_Bool}
use Rattle.std.proofs.lemmas.List.{drop_more}
use Rattle.px_cluster.specs.Numbers.{first_of, places_from, places_of}
use Rattle.genbook.specs.Places.{checked, passes}

pub some_is : {A : Type 0} (a b : A) → Some a ≡ Some b → a ≡ b
some_is a b is = cc

-- a place of a test, counted from a number
pub record IsPlace {A : Type 0} (test : A → Bool) (n : ℕ) (xs : List A) (i : ℕ) : Type 0 where
  pub offset : ℕ
  pub is : i ≡ n + offset
  pub element : A
  pub there : slice_get xs offset ≡ Some element
  pub passes : test element ≡ true

later_place : {A : Type 0} (test : A → Bool) (n : ℕ) (x : A) (xs : List A) (i : ℕ)
    → IsPlace test (n + 1) xs i → IsPlace test n (x ∷ xs) i
later_place test n x xs i place = record {
  offset = suc place.offset;
  is = omega (arith, place.is);
  element = place.element;
  there = place.there;
  passes = place.passes;
}

-- the first place is one
place_found : {A : Type 0} (test : A → Bool) (n : ℕ) (xs : List A) (i : ℕ)
    → first_of (places_from n test xs) ≡ Some i → IsPlace test n xs i
place_found test n [] i is = absurd (let none : None ≡ Some i = is in cc)
place_found test n (x ∷ xs) i is = elim (cases_Bool (test x)) [
  | inl holds ↦ (let here : Some n ≡ Some i = rw holds at is in
      let same = some_is n i here in
      record {
        offset = 0;
        is = omega (arith, same);
        element = x;
        there = refl;
        passes = holds;
      })
  | inr fails ↦ later_place test n x xs i (place_found test (n + 1) xs i (rw fails at is))
]

-- where there is no first one, nothing passes
pub place_none : {A : Type 0} (test : A → Bool) (n : ℕ) (xs : List A)
    → first_of (places_from n test xs) ≡ None → (i : ℕ) (x : A) → slice_get xs i ≡ Some x
    → test x ≡ true → ⊥
place_none test n [] none i x there passes = let z : None ≡ Some x = there in cc
place_none test n (y ∷ ys) none zero x there passes = elim (cases_Bool (test y)) [
  | inl holds ↦ (let z : Some n ≡ None = rw holds at none in cc)
  | inr fails ↦ (let same : y ≡ x = some_is y x there in
      let z : true ≡ false = sym passes ∙ ap test (sym same) ∙ fails in cc)
]
place_none test n (y ∷ ys) none (suc i) x there passes = elim (cases_Bool (test y)) [
  | inl holds ↦ (let z : Some n ≡ None = rw holds at none in cc)
  | inr fails ↦ place_none test (n + 1) ys (rw fails at none) i x there passes
]

-- the element at the first place
pub record IsFirst {A : Type 0} (test : A → Bool) (xs : List A) (i : ℕ) : Type 0 where
  pub element : A
  pub there : slice_get xs i ≡ Some element
  pub passes : test element ≡ true

pub first_there : {A : Type 0} (test : A → Bool) (xs : List A) (i : ℕ)
    → first_of (places_of test xs) ≡ Some i → IsFirst test xs i
first_there test xs i is =
    let place = place_found test 0 xs i is in
    let at : place.offset ≡ i = omega (arith, place.is) in
    record {
      element = place.element;
      there = subst (λ (n : ℕ). slice_get xs n ≡ Some place.element) at place.there;
      passes = place.passes;
    }

module _ {A : Type 0} (test : A → Bool) (xs : List A) (at : Option ℕ)
    (has : (i : ℕ) (x : A) → slice_get xs i ≡ Some x → test x ≡ true → at ≡ Some i) where
  -- nothing passes, so that what the index has does not either
  none_checked : (given : Option ℕ) → first_of (places_of test xs) ≡ None → checked test xs given ≡ None
  none_checked None none = refl
  none_checked (Some i) none = by (slice_get xs i) refl
    where
      by : (there : Option A) → slice_get xs i ≡ there → (if passes test (slice_get xs i) then Some i else None) ≡ None
      by None is = rw is refl
      by (Some x) is = rw is (elim (cases_Bool (test x)) [
        | inl holds ↦ absurd (place_none test 0 xs none i x is holds)
        | inr fails ↦ (rw fails refl)
      ])

  some_checked : (i : ℕ) → IsFirst test xs i → checked test xs at ≡ Some i
  some_checked i first =
      rw (has i first.element first.there first.passes, first.there, first.passes) refl

  -- what the index has, where it passes, is the first place
  pub first_checked : checked test xs at ≡ first_of (places_of test xs)
  first_checked = by (first_of (places_of test xs)) refl
    where
      by : (first : Option ℕ) → first_of (places_of test xs) ≡ first → checked test xs at ≡ first_of (places_of test xs)
      by None is = none_checked at is ∙ sym is
      by (Some i) is = some_checked i (first_there test xs i is) ∙ sym is

-- the places of a list: that of the first, if it passes, and those of the others
places_from-cons : {A : Type 0} (test : A → Bool) (n : ℕ) (x : A) (xs : List A)
    → places_from n test (x ∷ xs) ≡ places_from n test (x ∷ []) ++ places_from (n + 1) test xs
places_from-cons test n x xs = elim (cases_Bool (test x)) [
  | inl holds ↦ rw holds refl
  | inr fails ↦ rw fails refl
]

-- one element more was looked at
pub one_more : {A : Type 0} (test : A → Bool) (found now all : List ℕ) (i : ℕ) (x : A) (xs : List A)
    → i < length xs → found ++ places_from i test (drop i xs) ≡ all → x ≡ get_or xs i x
    → now ≡ found ++ places_from i test (x ∷ []) → now ++ places_from (i + 1) test (drop (i + 1) xs) ≡ all
one_more test found now all i x xs within before is added =
    let rest = places_from (i + 1) test (drop (i + 1) xs) in
    ap (λ l. l ++ rest) added
    ∙ append_assoc found (places_from i test (x ∷ [])) rest
    ∙ ap (λ l. found ++ l) (sym (places_from-cons test i x (drop (i + 1) xs))
    ∙ ap (λ y. places_from i test (y ∷ drop (i + 1) xs)) is
    ∙ ap (places_from i test) (sym (drop_more xs i x within)))
    ∙ before
