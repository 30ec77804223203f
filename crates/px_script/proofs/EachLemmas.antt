-- Lists of one a word: they are read back from their words, and what is read as a list is its words.
use Rattle.std.proofs.Common.{◌≡◌, ◌++◌, ℕ, List, [], ◌∷◌, map, Option, Some, None, append_assoc, refl, ap, sym, ◌∙◌, subst}
use Rattle.std.specs.List.{AllByRecursion}
use Rattle.px_script.specs.Words.{before_others, each_of}
use Rattle.px_script.proofs.WordLemmas.{IsWhole}

module _ {A : Type 0} (read : List ℕ → Option A) (lawful : A → Type 0) (spelled : A → List ℕ) where
  -- a list is read back from its words
  pub each_of-words : ((a : A) → lawful a → read (spelled a) ≡ Some a) → (items : List A) → AllByRecursion lawful items → each_of read (map spelled items) ≡ Some items
  each_of-words back [] each = refl
  each_of-words back (a ∷ items) each = rw (back a each.0, each_of-words back items each.1) refl

  -- what is read as a list is its words
  pub each_of-some : ((word : List ℕ) (a : A) → read word ≡ Some a → lawful a × (spelled a ≡ word))
      → (words : List (List ℕ)) (items : List A) → each_of read words ≡ Some items → AllByRecursion lawful items × (map spelled items ≡ words)
  each_of-some sound [] items is = let none : [] ≡ items = cc in subst (λ (l : List A). AllByRecursion lawful l × (map spelled l ≡ [])) none (tt, refl)
  each_of-some sound (word ∷ words) items is = step (read word) (each_of read words) refl refl (λ others. each_of-some sound words others) is
    where
      step : (first : Option A) (rest : Option (List A)) → read word ≡ first → each_of read words ≡ rest
          → ((others : List A) → each_of read words ≡ Some others → AllByRecursion lawful others × (map spelled others ≡ words))
          → before_others first rest ≡ Some items → AllByRecursion lawful items × (map spelled items ≡ word ∷ words)
      step None rest f r known is = cc
      step (Some a) None f r known is = cc
      step (Some a) (Some others) f r known is =
          let one = sound word a f in
          let more = known others r in
          let same : a ∷ others ≡ items = cc in
          subst (λ (l : List A). AllByRecursion lawful l × (map spelled l ≡ word ∷ words)) same
          ((one.0, more.0), ap (λ (w : List ℕ). w ∷ map spelled others) one.1 ∙ ap (λ (ws : List (List ℕ)). word ∷ ws) more.1)

  -- no word of a list has a space, where none of its items has one
  pub whole-each : ((a : A) → lawful a → IsWhole 32 (spelled a)) → (items : List A) → AllByRecursion lawful items → AllByRecursion (IsWhole 32) (map spelled items)
  whole-each whole [] each = tt
  whole-each whole (a ∷ items) each = (whole a each.0, whole-each whole items each.1)

-- a list, and behind it what is still read, if it is
abbrev pub after_these : {A : Type 0} → List A → Option (List A) → Option (List A)
after_these items None = None
after_these items (Some more) = Some (items ++ more)

-- behind none it stands alone
pub after_these-none : {A : Type 0} (more : Option (List A)) → after_these [] more ≡ more
after_these-none None = refl
after_these-none (Some more) = refl

-- one item moves to the front
pub after_these-more : {A : Type 0} (read : List ℕ → Option A) (items : List A) (word : List ℕ) (a : A) (more : Option (List A)) → read word ≡ Some a
    → after_these items (before_others (read word) more) ≡ after_these (items ++ a ∷ []) more
after_these-more read items word a None is = rw is refl
after_these-more {A} read items word a (Some more) is = rw is (ap (λ (l : List A). Some l) (sym (append_assoc items (a ∷ []) more)))
