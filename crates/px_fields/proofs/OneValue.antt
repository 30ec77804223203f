-- Bytes begin with at most one value of a kind.
use Rattle.std.proofs.Common.{◌≡◌, ◌<◌, ◌^◌, ◌++◌, ◌∷◌, [], ℕ, List, length, take, drop, Bool, true, false, Option, Some, None, arith, refl, sym, ap, ◌∙◌}
use Rattle.std.specs.Int.{from_be_bytes, w16, w32, w64}
use Rattle.std.specs.Option.{IfSome}
use Rattle.std.proofs.lemmas.Nat.{from_be_bytes-to_be_bytes_2, from_be_bytes-to_be_bytes_4, from_be_bytes-to_be_bytes_8}
use Rattle.px_base.specs.declared.kind.Kind.{Kind}
use Rattle.px_base.specs.declared.kind.Kind.TheVariants.{Commit, Tree, Blob, Tag}
use Rattle.px_fields.specs.Fields.{flag, kind_code, optional_u64, text_bytes, u32_bytes, u64_bytes}

-- ---- numbers

pub one_u32 : (n m : ℕ) (rest more : List ℕ) → n < 2 ^ 32 → m < 2 ^ 32
    → u32_bytes n ++ rest ≡ u32_bytes m ++ more → (n ≡ m) × (rest ≡ more)
one_u32 n m rest more fits other_fits same = (
  sym (from_be_bytes-to_be_bytes_4 n fits) ∙ ap (from_be_bytes w32) same
      ∙ from_be_bytes-to_be_bytes_4 m other_fits,
  ap (drop 4) same,
)

pub one_u64 : (n m : ℕ) (rest more : List ℕ) → n < 2 ^ 64 → m < 2 ^ 64
    → u64_bytes n ++ rest ≡ u64_bytes m ++ more → (n ≡ m) × (rest ≡ more)
one_u64 n m rest more fits other_fits same = (
  sym (from_be_bytes-to_be_bytes_8 n fits) ∙ ap (from_be_bytes w64) same
      ∙ from_be_bytes-to_be_bytes_8 m other_fits,
  ap (drop 8) same,
)

-- ---- flags

pub one_flag : (set other : Bool) (rest more : List ℕ) → flag set ∷ rest ≡ flag other ∷ more
    → (set ≡ other) × (rest ≡ more)
one_flag true true rest more same = (refl, ap (drop 1) same)
one_flag false false rest more same = (refl, ap (drop 1) same)
one_flag true false rest more same = absurd (cc)
one_flag false true rest more same = absurd (cc)

pub one_optional : (n m : Option ℕ) (rest more : List ℕ) → IfSome n (λ k. k < 2 ^ 64)
    → IfSome m (λ k. k < 2 ^ 64) → optional_u64 n ++ rest ≡ optional_u64 m ++ more
    → (n ≡ m) × (rest ≡ more)
one_optional None None rest more fits other_fits same = (refl, ap (drop 9) same)
one_optional None (Some m) rest more fits other_fits same = absurd (cc)
one_optional (Some n) None rest more fits other_fits same = absurd (cc)
one_optional (Some n) (Some m) rest more fits other_fits same =
    let both = one_u64 n m rest more fits other_fits (ap (drop 1) same) in
    (ap Some both.0, both.1)

-- ---- kinds

pub one_code : (kind other : Kind) → kind_code kind ≡ kind_code other → kind ≡ other
one_code Commit Commit same = refl
one_code Tree Tree same = refl
one_code Blob Blob same = refl
one_code Tag Tag same = refl
one_code kind other same = absurd (cc)

pub one_kind : (kind other : Kind) (rest more : List ℕ)
    → kind_code kind ∷ rest ≡ kind_code other ∷ more → (kind ≡ other) × (rest ≡ more)
one_kind kind other rest more same = (one_code kind other (cc), ap (drop 1) same)

-- ---- texts

-- texts of one length with something behind them are one, if all of it is
one_front : (text other rest more : List ℕ) → length text ≡ length other
    → text ++ rest ≡ other ++ more → (text ≡ other) × (rest ≡ more)
one_front [] [] rest more size same = (refl, same)
one_front [] (b ∷ other) rest more size same = absurd (cc)
one_front (a ∷ text) [] rest more size same = absurd (cc)
one_front (a ∷ text) (b ∷ other) rest more size same =
    let first : a ≡ b = cc in
    let both = one_front text other rest more (omega (arith, size)) (ap (drop 1) same) in
    (ap (λ (x : ℕ). x ∷ text) first ∙ ap (λ (xs : List ℕ). b ∷ xs) both.0, both.1)

pub one_text : (text other rest more : List ℕ) → length text < 2 ^ 16 → length other < 2 ^ 16
    → text_bytes text ++ rest ≡ text_bytes other ++ more → (text ≡ other) × (rest ≡ more)
one_text text other rest more fits other_fits same =
    one_front text other rest more
    (sym (from_be_bytes-to_be_bytes_2 (length text) fits) ∙ ap (λ (b : List ℕ). from_be_bytes w16 (take 2 b)) same
    ∙ from_be_bytes-to_be_bytes_2 (length other) other_fits)
    (ap (drop 2) same)
