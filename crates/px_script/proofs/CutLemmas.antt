-- Lists that are cut at the first that passes a test, and words that are cut at their first colon.
use Rattle.std.proofs.Common.{◌≡◌, ◌+◌, ◌++◌, ◌==◌, ℕ, suc, List, [], ◌∷◌, length, take, drop, get_or, Bool, true, false, cond, nat_lt, Option, Some, None, arith, refl, ap, sym, ◌∙◌}
use Rattle.std.specs.List.{after_first, AllByRecursion, before_first, position_or_len}
use Rattle.std.proofs.lemmas.Bool.{eqb-true, false_from_ne_true, lt-ltb, ltb-true}
use Rattle.std.proofs.lemmas.List.{drop_all, length-append, take_all}
use Rattle.std.proofs.lemmas.List.Sums.{passes_at_first, split_at_first}
use Rattle.std.proofs.Math.Seq.{drop-append-add, take-append_seam}
use Rattle.px_script.specs.Words.{cut_of, HasNo, IsCutAt}
use Rattle.px_script.proofs.WordLemmas.{IsWhole}

module _ {X : Type 0} (p : X → Bool) where
  -- the place of the first that passes, behind those that do not
  place : (xs : List X) (x : X) (rest : List X) → AllByRecursion (λ y. p y ≡ false) xs → p x ≡ true → position_or_len p (xs ++ x ∷ rest) ≡ length xs
  place [] x rest fail pass = rw pass refl
  place (y ∷ xs) x rest fail pass = rw fail.0 (ap (λ (n : ℕ). 1 + n) (place xs x rest fail.1 pass) ∙ (let e : 1 + length xs ≡ length (y ∷ xs) = omega arith in e))

  -- what stands before it
  pub before_first-joined : (xs : List X) (x : X) (rest : List X) → AllByRecursion (λ y. p y ≡ false) xs → p x ≡ true → before_first p (xs ++ x ∷ rest) ≡ xs
  before_first-joined xs x rest fail pass = rw (place xs x rest fail pass) (take-append_seam xs (x ∷ rest))

  -- and what stands after it
  pub after_first-joined : (xs : List X) (x : X) (rest : List X) → AllByRecursion (λ y. p y ≡ false) xs → p x ≡ true → after_first p (xs ++ x ∷ rest) ≡ rest
  after_first-joined xs x rest fail pass = rw (place xs x rest fail pass) (drop-append-add xs (x ∷ rest) 1)

  -- where none passes there is no place
  no_place : (xs : List X) → AllByRecursion (λ y. p y ≡ false) xs → position_or_len p xs ≡ length xs
  no_place [] fail = refl
  no_place (y ∷ xs) fail = rw fail.0 (ap (λ (n : ℕ). 1 + n) (no_place xs fail.1) ∙ (let e : 1 + length xs ≡ length (y ∷ xs) = omega arith in e))

  -- all stand before it
  pub before_first-none : (xs : List X) → AllByRecursion (λ y. p y ≡ false) xs → before_first p xs ≡ xs
  before_first-none xs fail = take_all (position_or_len p xs) xs (omega (arith, no_place xs fail))

  -- and nothing after it
  pub after_first-none : (xs : List X) → AllByRecursion (λ y. p y ≡ false) xs → after_first p xs ≡ []
  after_first-none xs fail = drop_all (position_or_len p xs + 1) xs (omega (arith, no_place xs fail))

  -- one that does not pass stands before it, in front of the others
  pub before_first-other : (x : X) (xs : List X) → p x ≡ false → before_first p (x ∷ xs) ≡ x ∷ before_first p xs
  before_first-other x xs fail =
      let more : 1 + position_or_len p xs ≡ suc (position_or_len p xs) = omega arith in
      rw fail (ap (λ (n : ℕ). take n (x ∷ xs)) more)

  -- and does not change what stands after it
  pub after_first-other : (x : X) (xs : List X) → p x ≡ false → after_first p (x ∷ xs) ≡ after_first p xs
  after_first-other x xs fail =
      let more : 1 + position_or_len p xs + 1 ≡ suc (position_or_len p xs + 1) = omega arith in
      rw fail (ap (λ (n : ℕ). drop n (x ∷ xs)) more)

-- the test for a colon
abbrev is_colon : ℕ → Bool
is_colon b = b == 58

-- two parts with a colon between them are cut as they were
pub cut_of-joined : {A : Type 0} (read : List ℕ → List ℕ → Option A) (front back : List ℕ) → IsWhole 58 front → cut_of read (front ++ 58 ∷ back) ≡ read front back
cut_of-joined read front back whole =
    let within : nat_lt (position_or_len is_colon (front ++ 58 ∷ back)) (length (front ++ 58 ∷ back)) ≡ true =
    lt-ltb _ _ (omega (arith, place is_colon front 58 back whole refl, length-append front (58 ∷ back))) in
    rw (within, before_first-joined is_colon front 58 back whole refl, after_first-joined is_colon front 58 back whole refl) refl

-- the parts of a word of which something is read
abbrev pub IsReadOf : {A : Type 0} → (List ℕ → List ℕ → Option A) → List ℕ → A → Type 0
IsReadOf read word a = (front : List ℕ) × (back : List ℕ) × (word ≡ front ++ 58 ∷ back) × (read front back ≡ Some a)

-- what is read of a word is read of its parts
pub cut_of-some : {A : Type 0} (read : List ℕ → List ℕ → Option A) (word : List ℕ) (a : A) → cut_of read word ≡ Some a → IsReadOf read word a
cut_of-some {A} read word a is = step (nat_lt (position_or_len (λ b. b == 58) word) (length word)) refl is
  where
    step : (t : Bool) → nat_lt (position_or_len (λ b. b == 58) word) (length word) ≡ t
        → (cond t (read (before_first (λ b. b == 58) word) (after_first (λ b. b == 58) word)) None) ≡ Some a → IsReadOf read word a
    step true within is =
        let lt = ltb-true _ _ within in
        let colon : get_or word (position_or_len (λ b. b == 58) word) 0 ≡ 58 = eqb-true _ 58 (passes_at_first (λ b. b == 58) word 0 lt) in (
          before_first (λ b. b == 58) word,
          after_first (λ b. b == 58) word,
          split_at_first (λ b. b == 58) word 0 lt ∙ ap (λ (c : ℕ). before_first (λ b. b == 58) word ++ c ∷ after_first (λ b. b == 58) word) colon,
          is,
        )
    step false past is = cc

-- the parts at which a word is cut are those that are read
pub cut_of-at : {A : Type 0} (read : List ℕ → List ℕ → Option A) (word front back : List ℕ) → IsCutAt 58 word front back → cut_of read word ≡ read front back
cut_of-at read word front back cut =
    let within : nat_lt (position_or_len (λ b. b == 58) word) (length word) ≡ true = lt-ltb _ _ cut.within in
    rw within (ap (λ (f : List ℕ). read f (after_first (λ b. b == 58) word)) (sym cut.before) ∙ ap (λ (b : List ℕ). read front b) (sym cut.after))

-- of a word without a colon nothing is read
pub cut_of-whole : {A : Type 0} (read : List ℕ → List ℕ → Option A) (word : List ℕ) → HasNo 58 word → cut_of read word ≡ None
cut_of-whole read word none =
    let past : nat_lt (position_or_len (λ b. b == 58) word) (length word) ≡ false = false_from_ne_true _ (λ t. let lt = ltb-true _ _ t in omega (arith, lt, none)) in
    rw past refl
