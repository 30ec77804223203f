-- What stands in a list with one element more, and the places of what passes a test.
use Rattle.std.proofs.Common.{◌≡◌, ℕ, ◌+◌, ◌==◌, zero, suc, List, [], ◌∷◌, ◌++◌, Bool, true, false, if◌then◌else◌, None, Some, refl, sym, ◌∙◌, ap, subst, inl, inr, slice_get, length, arith}
use Rattle.px_cluster.specs.Numbers.{first_of, places_from}
use Rattle.cluster_form.proofs.Lists.{bool, other_number, same_number, some_is}

-- ---- one element more

pub got_last : {A : Type 0} (xs : List A) (x : A) → slice_get (xs ++ x ∷ []) (length xs) ≡ Some x
got_last [] x = refl
got_last (y ∷ ys) x = got_last ys x

-- nothing stands from the length on
pub got_beyond : {A : Type 0} (xs : List A) → slice_get xs (length xs) ≡ None
got_beyond [] = refl
got_beyond (x ∷ xs) = got_beyond xs

-- what is there, and is not the new one, was there
pub got_before : {A : Type 0} (xs : List A) (x y : A) (i : ℕ) → (i ≡ length xs → ⊥)
    → slice_get (xs ++ x ∷ []) i ≡ Some y → slice_get xs i ≡ Some y
got_before [] x y zero other is = absurd (other refl)
got_before [] x y (suc i) other is = absurd (let none : None ≡ Some y = is in cc)
got_before (z ∷ zs) x y zero other is = is
got_before (z ∷ zs) x y (suc i) other is =
    got_before zs x y i (λ same. other (ap suc same)) is

-- one came that is the same as none of those that stood there, where no two were the same
module _ {A : Type 0} (Same : A → A → Type 0) (back : (a b : A) → Same a b → Same b a)
    (xs : List A) (new : A)
    (none : (i : ℕ) (x : A) → slice_get xs i ≡ Some x → Same x new → ⊥) where
  abbrev AreApart : List A → Type 0
  AreApart ys = (one other : ℕ) (a b : A) → slice_get ys one ≡ Some a → slice_get ys other ≡ Some b
      → Same a b → one ≡ other

  is_new : (i : ℕ) (x : A) → slice_get (xs ++ new ∷ []) i ≡ Some x → i ≡ length xs → x ≡ new
  is_new i x is last =
      some_is x new (sym is ∙ ap (slice_get (xs ++ new ∷ [])) last ∙ got_last xs new)

  -- one that stood there before is another than the new one
  another : (i last : ℕ) (a b : A) → slice_get (xs ++ new ∷ []) i ≡ Some a
      → slice_get (xs ++ new ∷ []) last ≡ Some b → (i ≡ length xs → ⊥) → last ≡ length xs
      → Same a b → ⊥
  another i last a b here there before is same =
      none i a (got_before xs new a i before here)
      (subst (λ x. Same a x) (is_new last b there is) same)

  pub apart_more : AreApart xs → AreApart (xs ++ new ∷ [])
  apart_more apart one other a b here there same =
      elim (bool (one == length xs)) [
        | inl holds ↦ (let first = same_number one (length xs) holds in
            elim (bool (other == length xs)) [
              | inl also ↦ (first ∙ sym (same_number other (length xs) also))
              | inr fails ↦ absurd (another other one b a there here
                  (other_number other (length xs) fails) first (back a b same))
            ])
        | inr fails ↦ (let first = other_number one (length xs) fails in
            elim (bool (other == length xs)) [
              | inl holds ↦ absurd (another one other a b here there first
                  (same_number other (length xs) holds) same)
              | inr also ↦ apart one other a b (got_before xs new a one first here)
                  (got_before xs new b other (other_number other (length xs) also) there) same
            ])
      ]

-- ---- the places of what passes a test

-- a place of a test, counted from a number
pub record IsPlace {A : Type 0} (test : A → Bool) (n : ℕ) (xs : List A) (i : ℕ) : Type 0 where
  pub offset : ℕ
  pub is : i ≡ n + offset
  pub element : A
  pub there : slice_get xs offset ≡ Some element
  pub passes : test element ≡ true

later_place : {A : Type 0} (test : A → Bool) (n : ℕ) (x : A) (xs : List A) (i : ℕ)
    → IsPlace test (n + 1) xs i → IsPlace test n (x ∷ xs) i
later_place test n x xs i place = record {
  offset = suc place.offset;
  is = omega (arith, place.is);
  element = place.element;
  there = place.there;
  passes = place.passes;
}

-- the first place is one
pub place_found : {A : Type 0} (test : A → Bool) (n : ℕ) (xs : List A) (i : ℕ)
    → first_of (places_from n test xs) ≡ Some i → IsPlace test n xs i
place_found test n [] i is = absurd (let none : None ≡ Some i = is in cc)
place_found test n (x ∷ xs) i is = elim (bool (test x)) [
  | inl holds ↦ (let here : Some n ≡ Some i = rw holds at is in
      let same = some_is n i here in
      record {
        offset = 0;
        is = omega (arith, same);
        element = x;
        there = refl;
        passes = holds;
      })
  | inr fails ↦ later_place test n x xs i (place_found test (n + 1) xs i (rw fails at is))
]

-- where there is no first one, nothing passes
pub place_none : {A : Type 0} (test : A → Bool) (n : ℕ) (xs : List A)
    → first_of (places_from n test xs) ≡ None → (i : ℕ) (x : A) → slice_get xs i ≡ Some x
    → test x ≡ true → ⊥
place_none test n [] none i x there passes = let z : None ≡ Some x = there in cc
place_none test n (y ∷ ys) none zero x there passes = elim (bool (test y)) [
  | inl holds ↦ (let z : Some n ≡ None = rw holds at none in cc)
  | inr fails ↦ (let same : y ≡ x = some_is y x there in
      let z : true ≡ false = sym passes ∙ ap test (sym same) ∙ fails in cc)
]
place_none test n (y ∷ ys) none (suc i) x there passes = elim (bool (test y)) [
  | inl holds ↦ (let z : Some n ≡ None = rw holds at none in cc)
  | inr fails ↦ place_none test (n + 1) ys (rw fails at none) i x there passes
]

-- the places in a list with one element more
pub places_more : {A : Type 0} (test : A → Bool) (n : ℕ) (xs : List A) (x : A)
    → places_from n test (xs ++ x ∷ [])
    ≡ places_from n test xs ++ (if test x then (n + length xs) ∷ [] else [])
places_more test n [] x = elim (bool (test x)) [
  | inl holds ↦ (rw holds (let same : n ≡ n + 0 = omega arith in ap (λ m. m ∷ []) same))
  | inr fails ↦ (rw fails refl)
]
places_more test n (y ∷ ys) x =
    let counted : (n + 1) + length ys ≡ n + length (y ∷ ys) = omega arith in
    let later : places_from (n + 1) test (ys ++ x ∷ [])
    ≡ places_from (n + 1) test ys ++ (if test x then (n + length (y ∷ ys)) ∷ [] else []) =
    places_more test (n + 1) ys x
    ∙ ap (λ m. places_from (n + 1) test ys ++ (if test x then m ∷ [] else [])) counted in
    elim (bool (test y)) [
      | inl holds ↦ (rw holds (ap (λ ms. n ∷ ms) later))
      | inr fails ↦ (rw fails later)
    ]
