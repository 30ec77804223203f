-- The words of a line: cut at its spaces, and joined by spaces.
use Rattle.std.proofs.Common.{◌≡◌, ◌++◌, ◌==◌, ℕ, List, [], ◌∷◌, Bool, true, false, not, cond, Option, Some, None, arith, codes, refl, ap, sym, subst, ◌∙◌}
use Rattle.std.specs.List.{after_first, AllByRecursion, join_with_byte, list_all, onto_first, slice_split}
use Rattle.std.specs.Str.{bytes_eq}
use Rattle.std.proofs.lemmas.Bool.{and_parts, eq-eqb, eqb-true, false_from_ne_true}
use Rattle.std.proofs.lemmas.List.Splits.{slice_split_first, slice_split_none}
use Rattle.std.proofs.lemmas.List.Sums.{fails_before_first}
use Rattle.std.proofs.lemmas.Slice.Eq.{bytes_eq-Decides}
use Rattle.px_base.specs.declared.phase.Phase.{Phase}
use Rattle.px_base.specs.declared.phase.Phase.TheVariants.{Prepared, Committed}
use Rattle.px_ops.specs.VoteTexts.{phase_word}
use Rattle.px_script.specs.ClusterSpelling.{health_word}
use Rattle.px_script.specs.Words.{end_of, health_of, line_words, phase_of, words_left, HasNo, IsCutAt}

-- what two present values hold is one, where the two are
pub some_same : {A : Type 0} {x y : A} → Some x ≡ Some y → x ≡ y
some_same e = cc

-- a byte put before some parts leaves a part
onto_first-some : (x : ℕ) (parts : List (List ℕ)) → end_of (onto_first x parts) ≡ None
onto_first-some x [] = refl
onto_first-some x (part ∷ parts) = refl

-- bytes that are cut have a first part
pub end_of-slice_split : (mark : ℕ) (bytes : List ℕ) → end_of (slice_split (λ b. b == mark) bytes) ≡ None
end_of-slice_split mark [] = refl
end_of-slice_split mark (b ∷ bytes) =
    elim (b == mark) as (λ t. end_of (cond t ([] ∷ slice_split (λ b. b == mark) bytes) (onto_first b (slice_split (λ b. b == mark) bytes))) ≡ None) [
      | true ↦ refl
      | false ↦ onto_first-some b (slice_split (λ b. b == mark) bytes)
    ]

-- where the line is not over, a word is left
pub not_over : (is_over : Bool) (bytes : List ℕ) (words : List (List ℕ)) → words_left is_over bytes ≡ words → is_over ≡ false → None ≡ end_of words
not_over false bytes words same more = sym (end_of-slice_split 32 bytes) ∙ ap end_of same
not_over true bytes words same more = cc

-- where the line is cut at its next space, what stands before it is the next word
pub cut_word : (is_over : Bool) (bytes word rest : List ℕ) (words : List (List ℕ)) → words_left is_over bytes ≡ words → is_over ≡ false
    → IsCutAt 32 bytes word rest → words ≡ word ∷ words_left is_over rest
cut_word false bytes word rest words same more cut =
    sym same ∙ slice_split_first (λ b. b == 32) bytes 0 cut.within
    ∙ ap (λ (w : List ℕ). w ∷ line_words (after_first (λ b. b == 32) bytes)) (sym cut.before)
    ∙ ap (λ (r : List ℕ). word ∷ line_words r) (sym cut.after)
cut_word true bytes word rest words same more cut = cc

-- and where it has no more space, all of it is the last word
pub last_word : (is_over : Bool) (bytes : List ℕ) (words : List (List ℕ)) → words_left is_over bytes ≡ words → is_over ≡ false
    → HasNo 32 bytes → words ≡ bytes ∷ []
last_word false bytes words same more none =
    sym same ∙ slice_split_none (λ b. b == 32) bytes (λ k d below. fails_before_first (λ b. b == 32) bytes k d (omega (arith, none, below)))
last_word true bytes words same more none = cc

-- no byte of a word is the mark
abbrev pub IsWhole : ℕ → List ℕ → Type 0
IsWhole mark word = AllByRecursion (λ b. (b == mark) ≡ false) word

-- what holds of each item gives what follows from it
pub each-from : {A : Type 0} (P Q : A → Type 0) → ((a : A) → P a → Q a) → (items : List A) → AllByRecursion P items → AllByRecursion Q items
each-from P Q gives [] each = tt
each-from P Q gives (a ∷ items) each = (gives a each.0, each-from P Q gives items each.1)

-- what holds of each item of two lists holds of each of both
pub each-append : {A : Type 0} (P : A → Type 0) (items more : List A) → AllByRecursion P items → AllByRecursion P more → AllByRecursion P (items ++ more)
each-append P [] more each rest = rest
each-append P (a ∷ items) more each rest = (each.0, each-append P items more each.1 rest)

-- words that have no mark have none under another name
pub same_words : (mark : ℕ) (words others : List (List ℕ)) → words ≡ others → AllByRecursion (IsWhole mark) others → AllByRecursion (IsWhole mark) words
same_words mark words others same whole = subst (λ (ws : List (List ℕ)). AllByRecursion (IsWhole mark) ws) (sym same) whole

-- where each byte passes a test and the mark does not, no byte is the mark
pub whole-passes : (test : ℕ → Bool) (mark : ℕ) → test mark ≡ false → (word : List ℕ) → list_all test word ≡ true → IsWhole mark word
whole-passes test mark fails [] all = tt
whole-passes test mark fails (b ∷ word) all =
    let parts = and_parts (test b) (list_all test word) all in (
      false_from_ne_true (b == mark) (λ same. let at : test b ≡ test mark = ap test (eqb-true b mark same) in
          let no : true ≡ false = sym parts.0 ∙ (at ∙ fails) in absurd (cc)),
      whole-passes test mark fails word parts.1,
    )

-- a written-out text, where a look at it shows that no byte is the mark
pub whole-text : (mark : ℕ) (text : List ℕ) → list_all (λ b. not (b == mark)) text ≡ true → IsWhole mark text
whole-text mark text all = whole-passes (λ b. not (b == mark)) mark (ap not (eq-eqb mark mark refl)) text all

-- a word without the mark is the first part of what goes on with the mark
pub slice_split-word : (mark : ℕ) (word rest : List ℕ) → IsWhole mark word
    → slice_split (λ b. b == mark) (word ++ mark ∷ rest) ≡ word ∷ slice_split (λ b. b == mark) rest
slice_split-word mark [] rest whole = rw (eq-eqb mark mark refl) refl
slice_split-word mark (b ∷ word) rest whole = rw whole.0 (ap (onto_first b) (slice_split-word mark word rest whole.1))

-- and it is all of its parts
pub slice_split-whole : (mark : ℕ) (word : List ℕ) → IsWhole mark word → slice_split (λ b. b == mark) word ≡ word ∷ []
slice_split-whole mark [] whole = refl
slice_split-whole mark (b ∷ word) whole = rw whole.0 (ap (onto_first b) (slice_split-whole mark word whole.1))

-- words without spaces that are joined by spaces are cut as they were
pub line_words-joined : (word : List ℕ) (words : List (List ℕ)) → AllByRecursion (IsWhole 32) (word ∷ words)
    → line_words (join_with_byte 32 (word ∷ words)) ≡ word ∷ words
line_words-joined word [] whole = slice_split-whole 32 word whole.0
line_words-joined word (next ∷ words) whole =
    slice_split-word 32 word (join_with_byte 32 (next ∷ words)) whole.0
    ∙ ap (λ (parts : List (List ℕ)). word ∷ parts) (line_words-joined next words whole.1)

-- a phase is read back from its word
pub phase_of-word : (phase : Phase) → phase_of (phase_word phase) ≡ Some phase
phase_of-word Prepared = refl
phase_of-word Committed = refl

-- a word that is taken as a phase is the word of it
pub phase_of-some : (word : List ℕ) (phase : Phase) → phase_of word ≡ Some phase → phase_word phase ≡ word
phase_of-some word phase is = by (bytes_eq word (codes "prepared")) (bytes_eq word (codes "committed")) phase refl refl is
  where
    by : (p c : Bool) (phase : Phase) → bytes_eq word (codes "prepared") ≡ p → bytes_eq word (codes "committed") ≡ c
        → (let o : Option Phase = cond p (Some Prepared) (cond c (Some Committed) None) in o) ≡ Some phase → phase_word phase ≡ word
    by true c Prepared same other is = sym ((bytes_eq-Decides word (codes "prepared")).0 same)
    by true c Committed same other is = absurd (cc)
    by false true Prepared same other is = absurd (cc)
    by false true Committed same other is = sym ((bytes_eq-Decides word (codes "committed")).0 other)
    by false false phase same other is = absurd (cc)

-- whether a storage can be reached is read back from its word
pub health_of-word : (up : Bool) → health_of (health_word up) ≡ Some up
health_of-word true = refl
health_of-word false = refl

-- a word that is taken so is the word for it
pub health_of-some : (word : List ℕ) (up : Bool) → health_of word ≡ Some up → health_word up ≡ word
health_of-some word up is = by (bytes_eq word (codes "up")) (bytes_eq word (codes "down")) up refl refl is
  where
    by : (u d up : Bool) → bytes_eq word (codes "up") ≡ u → bytes_eq word (codes "down") ≡ d
        → (let o : Option Bool = cond u (Some true) (cond d (Some false) None) in o) ≡ Some up → health_word up ≡ word
    by true d true same other is = sym ((bytes_eq-Decides word (codes "up")).0 same)
    by true d false same other is = absurd (cc)
    by false true true same other is = absurd (cc)
    by false true false same other is = sym ((bytes_eq-Decides word (codes "down")).0 other)
    by false false up same other is = absurd (cc)
