-- Numbers that rise: which of them are among the first, and which among the last.
use Rattle.std.proofs.Common.{◌≡◌, ◌<◌, ◌≤◌, ◌==◌, ◌||◌, ◌-◌, ◌++◌, ℕ, zero, suc, not, List, [], ◌∷◌, true, false, refl, sym, ap, subst, ◌∙◌, inl, inr, length, take, drop, reverse, slice_get, arith}
use Rattle.std.specs.List.{AllByRecursion}
use Rattle.std.specs.Prelude.{nat_lt}
use Rattle.std.proofs.lemmas.Bool.Decides.{nat_tests}
use Rattle.std.proofs.lemmas.List.{length-drop, length-reverse, reverse-append, take-append-drop, take_all}
use Rattle.std.proofs.lemmas.List.Sorted.{IsPermutation-reverse, list_any-IsPermutation}
use Rattle.std.proofs.Math.Seq.{take-append_seam}
use Rattle.px_cluster.specs.Numbers.{is_one_of}
use Rattle.cluster_form.proofs.Lists.{bool, same_number}
use Rattle.cluster_form.proofs.OneOf.{one_has}
use Rattle.genbook.specs.Changes.{AreAscending}
use Rattle.router.specs.Factors.{is_below}

-- ---- numbers that are all above one

abbrev pub AreAbove : ℕ → List ℕ → Type 0
AreAbove n ns = AllByRecursion (λ later. n < later) ns

above_differs : (n m : ℕ) → n < m → (m == n) ≡ false
above_differs n m above = grind (arith, nat_tests)

pub none_above : (n : ℕ) (ns : List ℕ) → AreAbove n ns → is_one_of n ns ≡ false
none_above n [] all = refl
none_above n (m ∷ ns) all = rw (above_differs n m all.0) (none_above n ns all.1)

all_dropped : (P : ℕ → Type 0) (k : ℕ) (ns : List ℕ) → AllByRecursion P ns
    → AllByRecursion P (drop k ns)
all_dropped P zero ns all = all
all_dropped P (suc k) [] all = tt
all_dropped P (suc k) (m ∷ ns) all = all_dropped P k ns all.1

below_got : (n : ℕ) (ns : List ℕ) (k : ℕ) → AreAbove n ns → is_below n (slice_get ns k) ≡ true
below_got n [] k all = refl
below_got n (m ∷ ns) zero all = let above : n < m = all.0 in grind (arith, nat_tests)
below_got n (m ∷ ns) (suc k) all = below_got n ns k all.1

-- ---- the first and the last of numbers that rise

-- none of them is below the first
not_under : (m n : ℕ) (ns : List ℕ) → AreAbove m ns → is_one_of n (m ∷ ns) ≡ true
    → nat_lt n m ≡ false
not_under m n ns above is = elim (bool (m == n)) [
  | inl holds ↦ (let same = same_number m n holds in grind (arith, nat_tests))
  | inr fails ↦ (let over : m < n = one_has (λ later. m < later) ns n above (rw fails at is) in
      grind (arith, nat_tests))
]

-- the last of a list are the first of it read backwards
seam : {A : Type 0} (k : ℕ) (xs ys : List A) → length xs ≡ k → take k (xs ++ ys) ≡ xs
seam k xs ys is = subst (λ (n : ℕ). take n (xs ++ ys) ≡ xs) is (take-append_seam xs ys)

take_reversed : {A : Type 0} (k : ℕ) (xs : List A)
    → take k (reverse xs) ≡ reverse (drop (length xs - k) xs)
take_reversed k xs = elim (bool (nat_lt (length xs) k)) [
  | inl over ↦ (
      let all : length (reverse xs) ≤ k = grind (arith, nat_tests, over, length-reverse xs) in
      let none : length xs - k ≡ 0 = grind (arith, nat_tests, over) in
      take_all k (reverse xs) all ∙ ap (λ (n : ℕ). reverse (drop n xs)) (sym none))
  | inr within ↦ (
      let left = length xs - k in
      let few : k ≤ length xs = grind (arith, nat_tests, within) in
      let count : length (reverse (drop left xs)) ≡ k =
      length-reverse (drop left xs) ∙ length-drop left xs ∙ omega (arith, few) in
      ap (λ (all : List _). take k (reverse all)) (sym (take-append-drop left xs))
      ∙ ap (take k) (reverse-append (take left xs) (drop left xs))
      ∙ seam k (reverse (drop left xs)) (reverse (take left xs)) count)
]

module _ (n : ℕ) where
  pub first_ones : (ns : List ℕ) (k : ℕ) → AreAscending ns → is_one_of n ns ≡ true
      → is_one_of n (take k ns) ≡ is_below n (slice_get ns k)
  first_ones [] k rise is = absurd (let z : false ≡ true = is in cc)
  first_ones (m ∷ ns) zero rise is = sym (not_under m n ns rise.0 is)
  first_ones (m ∷ ns) (suc k) rise is = elim (bool (m == n)) [
    | inl holds ↦ (
        let above = subst (λ (x : ℕ). AreAbove x ns) (same_number m n holds) rise.0 in
        rw holds (sym (below_got n ns k above)))
    | inr fails ↦ rw fails (first_ones ns k rise.1 (rw fails at is))
  ]

  rest_ones : (ns : List ℕ) (k : ℕ) → AreAscending ns → is_one_of n ns ≡ true
      → is_one_of n (drop k ns) ≡ not (is_below n (slice_get ns k))
  rest_ones [] k rise is = absurd (let z : false ≡ true = is in cc)
  rest_ones (m ∷ ns) zero rise is = is ∙ ap not (sym (not_under m n ns rise.0 is))
  rest_ones (m ∷ ns) (suc k) rise is = elim (bool (m == n)) [
    | inl holds ↦ (
        let above = subst (λ (x : ℕ). AreAbove x ns) (same_number m n holds) rise.0 in
        none_above n (drop k ns) (all_dropped (λ later. n < later) k ns above)
        ∙ ap not (sym (below_got n ns k above)))
    | inr fails ↦ rest_ones ns k rise.1 (rw fails at is)
  ]

  pub none_taken : (ns : List ℕ) (k : ℕ) → is_one_of n ns ≡ false → is_one_of n (take k ns) ≡ false
  none_taken ns zero none = refl
  none_taken [] (suc k) none = refl
  none_taken (m ∷ ns) (suc k) none = elim (bool (m == n)) [
    | inl holds ↦ absurd (let z : true ≡ false = rw holds at none in cc)
    | inr fails ↦ rw fails (none_taken ns k (rw fails at none))
  ]

  reversed : (ns : List ℕ) → is_one_of n ns ≡ is_one_of n (reverse ns)
  reversed ns = list_any-IsPermutation (λ other. other == n) ns (reverse ns) (IsPermutation-reverse ns)

  pub none_reversed : (ns : List ℕ) → is_one_of n ns ≡ false → is_one_of n (reverse ns) ≡ false
  none_reversed ns none = sym (reversed ns) ∙ none

  pub last_ones : (ns : List ℕ) (k : ℕ) → AreAscending ns → is_one_of n ns ≡ true
      → is_one_of n (take k (reverse ns)) ≡ not (is_below n (slice_get ns (length ns - k)))
  last_ones ns k rise is =
      let left = length ns - k in
      ap (is_one_of n) (take_reversed k ns)
      ∙ sym (reversed (drop left ns))
      ∙ rest_ones ns left rise is

  -- of two lists, one after the other
  pub both_taken : (xs ys : List ℕ) (k : ℕ) → is_one_of n (take k (xs ++ ys))
      ≡ (is_one_of n (take k xs) || is_one_of n (take (k - length xs) ys))
  both_taken [] ys zero = refl
  both_taken [] ys (suc k) =
      let all : suc k - 0 ≡ suc k = omega arith in
      ap (λ (count : ℕ). is_one_of n (take count ys)) (sym all)
  both_taken (x ∷ xs) ys zero =
      let none : 0 - length (x ∷ xs) ≡ 0 = omega arith in
      ap (λ (count : ℕ). is_one_of n (take count ys)) (sym none)
  both_taken (x ∷ xs) ys (suc k) =
      let less : suc k - length (x ∷ xs) ≡ k - length xs = omega arith in
      elim (bool (x == n)) [
        | inl holds ↦ rw holds refl
        | inr fails ↦ rw fails (both_taken xs ys k
            ∙ ap (λ (count : ℕ). is_one_of n (take k xs) || is_one_of n (take count ys)) (sym less))
      ]
