-- Numbers: the digits of a number are read as it, and what is read as a number is its digits.
use Rattle.std.proofs.Common.{◌≡◌, ◌<◌, ◌+◌, ◌-◌, ◌*◌, ◌/◌, ◌%◌, ◌^◌, ◌&&◌, ◌==◌, ◌⊎◌, inl, inr, ℕ, List, [], ◌∷◌, length, get_or, fold, Bool, true, false, cond, nat_le, nat_lt, Option, Some, None, arith, refl, ap, sym, ◌∙◌, subst, zero-add}
use Rattle.std.specs.Fmt.{decimal}
use Rattle.std.specs.Int.{IsInRange}
use Rattle.std.specs.List.{AllByRecursion}
use Rattle.std.proofs.lemmas.Bool.{and_parts, cases_lt, leb-true, ltb-true, lt-ltb, false_from_ne_true, eqb-true, eq-eqb}
use Rattle.std.proofs.lemmas.Fmt.{decimal_by_steps, decimal_digit, first_decimal, digits_decimal, decimal-digits_value}
use Rattle.std.proofs.lemmas.Grind.{common_steps}
use Rattle.std.proofs.lemmas.List.Folds.{fold_stays}
use Rattle.std.proofs.lemmas.List.Sums.{fold-append}
use Rattle.std.proofs.lemmas.Option.{cond_some, option_and_then_some}
use Rattle.std.proofs.lemmas.Str.Parse.{IsNumeralModel, numerals_by_fold}
use Rattle.px_script.specs.Words.{fitting, lease_of, narrow, number_of, small_of, with_digit}
use Rattle.px_script.proofs.WordLemmas.{IsWhole, each-from, some_same}

-- each byte is a decimal digit
abbrev pub AreDigits : List ℕ → Type 0
AreDigits ds = AllByRecursion (IsInRange 48 57) ds

-- the number that digits stand for, behind those of n
abbrev read_on : ℕ → List ℕ → ℕ
read_on n [] = n
read_on n (d ∷ ds) = read_on (n * 10 + (d - 48)) ds

-- these are std's digits and their value
own : IsNumeralModel AreDigits (read_on 0)
own = numerals_by_fold AreDigits (record { empty = tt; parts = λ c cs each. each; more = λ c cs here rest. (here, rest) })
    read_on (record { empty = λ n. refl; more = λ n c cs here. refl })

-- no byte of a number is a mark that is no digit
pub whole-decimal : (mark n : ℕ) → (mark < 48) ⊎ (57 < mark) → n < 2 ^ 64 → IsWhole mark (decimal n)
whole-decimal mark n other fits =
    each-from (IsInRange 48 57) (λ b. (b == mark) ≡ false)
    (λ b here. false_from_ne_true (b == mark) (λ same. let e : b ≡ mark = eqb-true b mark same in
    elim other [ inl low ↦ omega (arith, here, e, low) | inr high ↦ omega (arith, here, e, high) ]))
    (decimal n) (digits_decimal own n fits)

-- one digit more, of a number that fits
with_digit-digit : (n d : ℕ) → d < 10 → n * 10 + d < 2 ^ 64 → with_digit (Some n) (48 + d) ≡ Some (n * 10 + d)
with_digit-digit n d small fits = grind (arith, common_steps)

-- the digits of a number are folded to it
fold-decimal : (n : ℕ) → n < 2 ^ 64 → fold with_digit (Some 0) (decimal n) ≡ Some n
fold-decimal n fits =
    decimal_by_steps (λ n ds. n < 2 ^ 64 → fold with_digit (Some 0) ds ≡ Some n)
    (λ n low fits. with_digit-digit 0 n low (omega arith) ∙ ap (λ (k : ℕ). Some k) (zero-add n))
    (λ n ds high front fits.
    fold-append with_digit (Some 0) ds ((48 + n % 10) ∷ [])
    ∙ ap (λ (o : Option ℕ). with_digit o (48 + n % 10)) (front (omega arith))
    ∙ with_digit-digit (n / 10) (n % 10) (omega arith) (omega arith)
    ∙ ap (λ (k : ℕ). Some k) (let e : n / 10 * 10 + n % 10 ≡ n = omega arith in e))
    n fits fits

-- where no zero leads, the number is the fold
number_of-fold : (ds : List ℕ) → (length ds ≡ 1) ⊎ (48 < get_or ds 0 0) → number_of ds ≡ fold with_digit (Some 0) ds
number_of-fold [] (inl one) = absurd (omega (arith, one))
number_of-fold [] (inr first) = absurd (omega (arith, first))
number_of-fold (d ∷ []) some = refl
number_of-fold (d ∷ e ∷ ds) (inl one) = absurd (omega (arith, one))
number_of-fold (d ∷ e ∷ ds) (inr first) = let t : (d == 48) ≡ false = false_from_ne_true (d == 48) (λ same. omega (arith, first, eqb-true d 48 same)) in rw t refl

-- a number is read back from its digits
pub number_of-decimal : (n : ℕ) → n < 2 ^ 64 → number_of (decimal n) ≡ Some n
number_of-decimal n fits =
    elim (cases_lt 0 n) [
      | inl above ↦ number_of-fold (decimal n) (inr (first_decimal n above fits)) ∙ fold-decimal n fits
      | inr zero ↦ number_of-fold (decimal n) (inl (ap (λ (ds : List ℕ). length ds) (decimal_digit n (omega (arith, zero))))) ∙ fold-decimal n fits
    ]

-- digits below 2^64 that stand for n, behind those of m
abbrev IsRead : ℕ → List ℕ → ℕ → Type 0
IsRead m ds n = AreDigits ds × (read_on m ds ≡ n) × (n < 2 ^ 64)

-- what is folded to a number is digits that stand for it
fold-some : (m : ℕ) (ds : List ℕ) (n : ℕ) → m < 2 ^ 64 → fold with_digit (Some m) ds ≡ Some n → IsRead m ds n
fold-some m [] n fits is = (tt, some_same is, subst (λ k. k < 2 ^ 64) (some_same is) fits)
fold-some m (d ∷ ds) n fits is = step (nat_le 48 d && nat_le d 57 && nat_lt (m * 10 + (d - 48)) (2 ^ 64)) refl (λ k. fold-some k ds n) is
  where
    step : (t : Bool) → (nat_le 48 d && nat_le d 57 && nat_lt (m * 10 + (d - 48)) (2 ^ 64)) ≡ t
        → ((k : ℕ) → k < 2 ^ 64 → fold with_digit (Some k) ds ≡ Some n → IsRead k ds n)
        → fold with_digit (cond t (Some (m * 10 + (d - 48))) None) ds ≡ Some n → IsRead m (d ∷ ds) n
    step true passes more is =
        let both = and_parts (nat_le 48 d && nat_le d 57) (nat_lt (m * 10 + (d - 48)) (2 ^ 64)) passes in
        let ends = and_parts (nat_le 48 d) (nat_le d 57) both.0 in
        let rest = more (m * 10 + (d - 48)) (ltb-true _ _ both.1) is in
        ((((leb-true 48 d ends.0), (leb-true d 57 ends.1)), rest.0), rest.1, rest.2)
    step false fails more is = let stays : fold with_digit None ds ≡ None = fold_stays with_digit None (λ b. refl) ds in cc

-- what is read as a number begins with a zero only where it is one
number_of-some_fold : (ds : List ℕ) (n : ℕ) → number_of ds ≡ Some n
    → (fold with_digit (Some 0) ds ≡ Some n) × (0 < length ds) × (get_or ds 0 0 ≡ 48 → length ds ≡ 1)
number_of-some_fold [] n is = cc
number_of-some_fold (d ∷ []) n is = (is, omega arith, λ _. refl)
number_of-some_fold (d ∷ e ∷ ds) n is = step (d == 48) refl is
  where
    step : (t : Bool) → (d == 48) ≡ t → (cond t None (fold with_digit (Some 0) (d ∷ e ∷ ds))) ≡ Some n
        → (fold with_digit (Some 0) (d ∷ e ∷ ds) ≡ Some n) × (0 < length (d ∷ e ∷ ds)) × (get_or (d ∷ e ∷ ds) 0 0 ≡ 48 → length (d ∷ e ∷ ds) ≡ 1)
    step true zero is = cc
    step false other is = (is, omega arith, λ zero. let no : true ≡ false = sym (eq-eqb d 48 zero) ∙ other in absurd (cc))

-- what is read as a number is its digits
pub number_of-some : (ds : List ℕ) (n : ℕ) → number_of ds ≡ Some n → (n < 2 ^ 64) × (decimal n ≡ ds)
number_of-some ds n is =
    let folded = number_of-some_fold ds n is in
    let read = fold-some 0 ds n (omega arith) folded.0 in
    (read.2, ap decimal (sym read.1) ∙ decimal-digits_value own ds read.0 folded.1 folded.2 (subst (λ k. k < 2 ^ 64) (sym read.1) read.2))

-- a number that is kept is small
narrow-some : (m n : ℕ) → narrow m ≡ Some n → (m ≡ n) × (n < 2 ^ 32)
narrow-some m n is =
    let kept = cond_some (nat_lt m (2 ^ 32)) m n is in
    (kept.1, subst (λ k. k < 2 ^ 32) kept.1 (ltb-true m (2 ^ 32) kept.0))

-- a small number is read back from its digits
pub small_of-decimal : (n : ℕ) → n < 2 ^ 32 → small_of (decimal n) ≡ Some n
small_of-decimal n small =
    let wide : n < 2 ^ 64 = omega arith in
    rw (number_of-decimal n wide, lt-ltb n (2 ^ 32) small) refl

-- what is read as a small number is its digits
pub small_of-some : (ds : List ℕ) (n : ℕ) → small_of ds ≡ Some n → (n < 2 ^ 32) × (decimal n ≡ ds)
small_of-some ds n is = option_and_then_some narrow (number_of ds) n is (λ m read narrowed.
    let same = narrow-some m n narrowed in
    (same.1, ap decimal (sym same.0) ∙ (number_of-some ds m read).1))

-- a number that fits is that of a lease
fitting-some : (m n : ℕ) → fitting m ≡ Some n → (m ≡ n) × (n < 2 ^ 64 - 1)
fitting-some m n is =
    let kept = cond_some (nat_lt m (2 ^ 64 - 1)) m n is in
    (kept.1, subst (λ k. k < 2 ^ 64 - 1) kept.1 (ltb-true m (2 ^ 64 - 1) kept.0))

-- a lease is read back from its digits
pub lease_of-decimal : (n : ℕ) → n < 2 ^ 64 - 1 → lease_of (decimal n) ≡ Some n
lease_of-decimal n fits =
    let wide : n < 2 ^ 64 = omega arith in
    rw (number_of-decimal n wide, lt-ltb n (2 ^ 64 - 1) fits) refl

-- what is read as a lease is its digits
pub lease_of-some : (ds : List ℕ) (n : ℕ) → lease_of ds ≡ Some n → (n < 2 ^ 64 - 1) × (decimal n ≡ ds)
lease_of-some ds n is = option_and_then_some fitting (number_of ds) n is (λ m read kept.
    let same = fitting-some m n kept in
    (same.1, ap decimal (sym same.0) ∙ (number_of-some ds m read).1))
