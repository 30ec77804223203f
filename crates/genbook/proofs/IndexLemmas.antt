-- The indexes of the book, as numbers are put into them.
use Rattle.std.proofs.Common.{◌≡◌, ◌⊎◌, ◌&&◌, true, false, ◌++◌, ◌∷◌, [], ℕ, Result, Ok, Err, OnOk, OnErr, zero, suc, List, length, slice_get, cond, Option, None, Some, refl, ap, sym, ◌∙◌, subst, ⊎_elim, inl, inr}
use Rattle.std.specs.BTreeMap.{BTreeMap}
use Rattle.std.specs.Map.{lookup}
use Rattle.std.specs.Option.{IsSome, is_some}
use Rattle.std.proofs.lemmas.Bool.{and_from, and_parts, cases_Bool, cond-false, cond-true}
use Rattle.px_base.specs.RefList.{is_name}
use Rattle.refstore.proofs.Names.{names_laws, one_name}
use Rattle.px_cluster.specs.Book.{Repository}
use Rattle.genbook.specs.Index.{AreFound, Names, Paths, Puts, PutsAt, PutsBelow, StaysAt, number_at, number_of, number_under}

module _ (old new : Paths) (virt : List ℕ) (after : BTreeMap (List ℕ) ℕ)
    (outer : PutsBelow old new virt after) where
  here : (v p : List ℕ) → is_name virt v ≡ true → number_at new v p ≡ number_of after.entries p
  here v p same = ap (λ o. number_under o p)
      (outer v ∙ cond-true (is_name virt v) (Some after) (lookup (is_name v) old) same)

  elsewhere : (v p : List ℕ) → is_name virt v ≡ false → number_at new v p ≡ number_at old v p
  elsewhere v p other = ap (λ o. number_under o p)
      (outer v ∙ cond-false (is_name virt v) (Some after) (lookup (is_name v) old) other)

  module _ (below : BTreeMap (List ℕ) ℕ) (was : lookup (is_name virt) old ≡ Some below) where
    before : (v p : List ℕ) → is_name virt v ≡ true → number_of below.entries p ≡ number_at old v p
    before v p same = ap (λ o. number_under o p)
        (sym was ∙ ap (λ (n : List ℕ). lookup (is_name n) old) (one_name virt v same))

    -- a number is put under one of its paths
    pub puts_at : (path : List ℕ) (number : ℕ) → Puts below.entries after.entries path number
        → PutsAt old new virt path number
    puts_at path number puts v p =
        ⊎_elim
        (λ same. here v p same ∙ puts p
        ∙ ap (λ n. cond (is_name path p) (Some number) n) (before v p same)
        ∙ ap (λ b. cond (b && is_name path p) (Some number) (number_at old v p)) (sym same))
        (λ other. elsewhere v p other
        ∙ ap (λ b. cond (b && is_name path p) (Some number) (number_at old v p)) (sym other))
        (cases_Bool (is_name virt v))

    -- its paths have what they had
    pub stays_below : after.entries ≡ below.entries → StaysAt old new
    stays_below kept v p =
        ⊎_elim
        (λ same. here v p same ∙ ap (λ (es : Names). number_of es p) kept ∙ before v p same)
        (λ other. elsewhere v p other)
        (cases_Bool (is_name virt v))

  -- a virtual storage comes that has no path yet
  pub stays_new : lookup (is_name virt) old ≡ None → after.entries ≡ [] → StaysAt old new
  stays_new was none v p =
      ⊎_elim
      (λ same. here v p same ∙ ap (λ (es : Names). number_of es p) none
      ∙ ap (λ o. number_under o p)
      (sym was ∙ ap (λ (n : List ℕ). lookup (is_name n) old) (one_name virt v same)))
      (λ other. elsewhere v p other)
      (cases_Bool (is_name virt v))

-- the virtual storage has paths then
pub some_put : (old new : Paths) (virt : List ℕ) (after : BTreeMap (List ℕ) ℕ)
    → PutsBelow old new virt after → IsSome (lookup (is_name virt) new)
some_put old new virt after puts =
    subst IsSome (sym (puts virt ∙ cond-true (is_name virt virt) (Some after) (lookup (is_name virt) old) (names_laws.refl virt))) refl

-- there is none where the test says so
pub none_from_test : {A : Type 0} (found : Option A) → is_some found ≡ false → found ≡ None
none_from_test None t = refl
none_from_test (Some x) t = absurd (cc)

-- ---- what an answer tells, in other words

pub OnOk-on : {A E : Type 0} (P Q : Type 0) (r : Result A E) → (P → Q) → OnOk r P → OnOk r Q
OnOk-on P Q (Ok a) on h = on h
OnOk-on P Q (Err e) on h = tt

pub OnErr-on : {A E : Type 0} (P Q : Type 0) (r : Result A E) → (P → Q) → OnErr r P → OnErr r Q
OnErr-on P Q (Ok a) on h = tt
OnErr-on P Q (Err e) on h = on h

-- ---- what the book has stays found

pub found_stays : (old new : Paths) (repositories : List Repository) → AreFound old repositories
    → StaysAt old new → AreFound new repositories
found_stays old new repositories found stays i repo there =
    stays repo.virt repo.path ∙ found i repo there

-- a number is put for a repository that is not there yet
pub found_put : (old new : Paths) (repositories : List Repository) (virt path : List ℕ) (number : ℕ)
    → AreFound old repositories → PutsAt old new virt path number
    → ((i : ℕ) (repo : Repository) → slice_get repositories i ≡ Some repo → virt ≡ repo.virt
    → path ≡ repo.path → ⊥)
    → AreFound new repositories
found_put old new repositories virt path number found puts fresh i repo there =
    let is = is_name virt repo.virt && is_name path repo.path in
    ⊎_elim
    (λ t. let both = and_parts (is_name virt repo.virt) (is_name path repo.path) t in
    absurd (fresh i repo there (one_name virt repo.virt both.0) (one_name path repo.path both.1)))
    (λ f. puts repo.virt repo.path
    ∙ cond-false is (Some number) (number_at old repo.virt repo.path) f ∙ found i repo there)
    (cases_Bool is)

-- and is found under it
pub number_put : (old new : Paths) (virt path : List ℕ) (number : ℕ) → PutsAt old new virt path number
    → number_at new virt path ≡ Some number
number_put old new virt path number puts =
    puts virt path
    ∙ cond-true (is_name virt virt && is_name path path) (Some number) (number_at old virt path)
    (and_from (is_name virt virt) (is_name path path) (names_laws.refl virt) (names_laws.refl path))

-- what stands in a list with one more stood there, or is the one more
pub in_longer : {A : Type 0} (xs : List A) (x y : A) (i : ℕ) → slice_get (xs ++ x ∷ []) i ≡ Some y
    → (slice_get xs i ≡ Some y) ⊎ ((i ≡ length xs) × (x ≡ y))
in_longer [] x y zero there = inr (refl, cc)
in_longer [] x y (suc i) there = absurd (cc)
in_longer (z ∷ xs) x y zero there = inl there
in_longer (z ∷ xs) x y (suc i) there =
    ⊎_elim (λ stood. inl stood) (λ more. inr (ap suc more.0, more.1)) (in_longer xs x y i there)

-- a repository comes whose number is there
pub found_longer : (paths : Paths) (repositories : List Repository) (new : Repository)
    → AreFound paths repositories → number_at paths new.virt new.path ≡ Some (length repositories)
    → AreFound paths (repositories ++ new ∷ [])
found_longer paths repositories new found next i repo there =
    ⊎_elim (λ stood. found i repo stood)
    (λ more. subst (λ (r : Repository). number_at paths r.virt r.path ≡ Some i) more.1
    (next ∙ ap (λ (n : ℕ). Some n) (sym more.0)))
    (in_longer repositories new repo i there)
