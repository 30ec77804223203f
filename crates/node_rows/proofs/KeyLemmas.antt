-- Keys of a path, a NUL and a name, and what they are cut into.
use Rattle.std.proofs.Common.{◌≡◌, ◌≢◌, ◌==◌, ◌<◌, ◌+◌, ◌-◌, ℕ, suc, List, [], ◌∷◌, ◌++◌, length, take, drop, get_or, true, false, cond, Bool, Option, Some, None, slice_get, refl, sym, ap, ◌∙◌, subst, arith}
use Rattle.std.specs.List.{AllByRecursion}
use Rattle.std.specs.Option.{option_map}
use Rattle.std.proofs.lemmas.Bool.{cond-false, eqb-true, eqb-false, false_from_ne_true, or_right}
use Rattle.std.proofs.lemmas.List.{drop_more, take-append-drop, take_rest}
use Rattle.px_base.specs.RepoPath.{IsBadByteAt, IsRepoPath}
use Rattle.node_rows.specs.Rows.{cut, under}

-- no byte is a NUL
abbrev pub HasNoNul : List ℕ → Type 0
HasNoNul bytes = AllByRecursion (λ b. b ≢ 0) bytes

-- the first part of a key has each byte up to the first NUL
cut-byte : (b : ℕ) (key : List ℕ) → b ≢ 0
    → cut (b ∷ key) ≡ option_map (λ (p : List ℕ × List ℕ). (b ∷ p.0, p.1)) (cut key)
cut-byte b key some =
    cond-false (b == 0) (Some ([], key))
    (option_map (λ (p : List ℕ × List ℕ). (b ∷ p.0, p.1)) (cut key))
    (false_from_ne_true (b == 0) (λ t. some (eqb-true b 0 t)))

-- so no key is cut within it
pub cut-under : (path name : List ℕ) → HasNoNul path → cut (under path name) ≡ Some (path, name)
cut-under [] name none = refl
cut-under (b ∷ path) name none =
    cut-byte b (under path name) none.0
    ∙ ap (option_map (λ (p : List ℕ × List ℕ). (b ∷ p.0, p.1))) (cut-under path name none.1)

-- what a key is cut into: the key is these parts, and the first has no NUL
pub record IsCut (key : List ℕ) (parts : List ℕ × List ℕ) : Type 0 where
  pub key_is : key ≡ under parts.0 parts.1
  pub none : HasNoNul parts.0

pub IsCut-cut : (key : List ℕ) (parts : List ℕ × List ℕ) → cut key ≡ Some parts → IsCut key parts
IsCut-cut [] parts is = absurd (cc)
IsCut-cut (b ∷ key) parts is = at (b == 0) refl (cut key) (IsCut-cut key) is
  where
    at : (c : Bool) → (b == 0) ≡ c → (later : Option (List ℕ × List ℕ))
        → ((p : List ℕ × List ℕ) → later ≡ Some p → IsCut key p)
        → cond c (Some ([], key))
        (option_map (λ (p : List ℕ × List ℕ). (b ∷ p.0, p.1)) later) ≡ Some parts
        → IsCut (b ∷ key) parts
    at true nul later rest is =
        let zero_ : b ≡ 0 = eqb-true b 0 nul in
        let same : ◌≡◌ {A = List ℕ × List ℕ} ([], key) parts = cc in
        subst (λ (p : List ℕ × List ℕ). IsCut (b ∷ key) p) same
        (record { key_is = ap (λ (c : ℕ). c ∷ key) zero_; none = tt })
    at false nul None rest is = absurd (cc)
    at false nul (Some p) rest is =
        let same : ◌≡◌ {A = List ℕ × List ℕ} (b ∷ p.0, p.1) parts = cc in
        let later : IsCut key p = rest p refl in
        subst (λ (q : List ℕ × List ℕ). IsCut (b ∷ key) q) same (record {
          key_is = ap (λ (k : List ℕ). b ∷ k) later.key_is;
          none = (eqb-false b 0 nul, later.none);
        })

-- ---- the first NUL

-- a key is cut at a NUL that none stands before
pub cut_at : (key : List ℕ) (i : ℕ) → i < length key → HasNoNul (take i key) → get_or key i 0 ≡ 0
    → cut key ≡ Some (take i key, take (length key - (i + 1)) (drop (i + 1) key))
cut_at key i inside none nul =
    ap cut (sym (take-append-drop i key) ∙ ap (λ (rest : List ℕ). take i key ++ rest)
    (drop_more key i 0 inside ∙ ap (λ (b : ℕ). b ∷ drop (i + 1) key) nul))
    ∙ cut-under (take i key) (drop (i + 1) key) none
    ∙ ap (λ (rest : List ℕ). Some (take i key, rest)) (sym (take_rest key (i + 1)))

-- and nowhere where it has none
pub not_cut : (key : List ℕ) → HasNoNul key → cut key ≡ None
not_cut [] none = refl
not_cut (b ∷ key) none =
    cut-byte b key none.0
    ∙ ap (option_map (λ (p : List ℕ × List ℕ). (b ∷ p.0, p.1))) (not_cut key none.1)

-- ---- paths

-- a NUL is no byte of a path
nul_is_bad : (text : List ℕ) (k b : ℕ) → slice_get text k ≡ Some b → b ≡ 0 → IsBadByteAt text k
nul_is_bad text k b there is = rw (there, is) (or_right _ _ refl)

no_nul : (text bytes : List ℕ) (i : ℕ) → IsRepoPath text
    → ((k : ℕ) → slice_get bytes k ≡ slice_get text (i + k)) → HasNoNul bytes
no_nul text [] i path at = tt
no_nul text (b ∷ bytes) i path at = (
  λ is. path.bytes i (nul_is_bad text i b
      (ap (λ (n : ℕ). slice_get text n) (let z : i ≡ i + 0 = omega arith in z) ∙ sym (at 0)) is),
  no_nul text bytes (i + 1) path (λ k. at (suc k)
      ∙ ap (λ (n : ℕ). slice_get text n) (let z : i + suc k ≡ i + 1 + k = omega arith in z)),
)

pub path_no_nul : (path : List ℕ) → IsRepoPath path → HasNoNul path
path_no_nul path is =
    no_nul path path 0 is
    (λ k. ap (λ (n : ℕ). slice_get path n) (let z : k ≡ 0 + k = omega arith in z))

pub cut_path : (path name : List ℕ) → IsRepoPath path → cut (under path name) ≡ Some (path, name)
cut_path path name is = cut-under path name (path_no_nul path is)
