-- Voters as words: a voter is read back from its word, and what is read as a voter is its word.
use Rattle.std.proofs.Common.{◌≡◌, ◌++◌, ◌==◌, ℕ, List, ◌∷◌, false, Option, Some, None, arith, refl, ap, sym, ◌∙◌, subst, inl}
use Rattle.std.specs.Fmt.{decimal}
use Rattle.px_base.specs.declared.voter.Voter.{Voter}
use Rattle.px_script.specs.Words.{name_of, small_of, voter_from, voter_of}
use Rattle.px_script.specs.VoteSpelling.{IsLawfulVoter, voter_word}
use Rattle.px_script.proofs.CutLemmas.{cut_of-joined, cut_of-some}
use Rattle.px_script.proofs.NameLemmas.{name_of-name, name_of-some, whole-name}
use Rattle.px_script.proofs.NumberLemmas.{small_of-decimal, small_of-some, whole-decimal}
use Rattle.px_script.proofs.WordLemmas.{IsWhole, each-append}

-- the voter of a name and a weight
abbrev read_parts : List ℕ → List ℕ → Option Voter
read_parts name weight = voter_from (name_of name) (small_of weight)

-- a voter is read back from its word
pub voter_of-voter_word : (voter : Voter) → IsLawfulVoter voter → voter_of (voter_word voter) ≡ Some voter
voter_of-voter_word voter h =
    cut_of-joined read_parts voter.name (decimal voter.weight) (whole-name 58 refl voter.name h.name)
    ∙ rw (name_of-name voter.name h.name, small_of-decimal voter.weight h.weight) refl

-- the parts of a voter that is read are a lawful name and a lawful weight
voter_from-some : (front back : List ℕ) (name : Option (List ℕ)) (weight : Option ℕ) (voter : Voter) → name_of front ≡ name → small_of back ≡ weight
    → voter_from name weight ≡ Some voter → IsLawfulVoter voter × (voter_word voter ≡ front ++ 58 ∷ back)
voter_from-some front back None weight voter n w is = cc
voter_from-some front back (Some name) None voter n w is = cc
voter_from-some front back (Some name) (Some weight) voter n w is =
    let named = name_of-some front name n in
    let weighed = small_of-some back weight w in
    let made : Voter = record { name = name; weight = weight } in
    let same : made ≡ voter = cc in
    let lawful : IsLawfulVoter made = record { name = named.0; weight = weighed.0 } in
    (subst (λ (v : Voter). IsLawfulVoter v) same lawful, ap voter_word (sym same) ∙ (ap (λ (f : List ℕ). f ++ 58 ∷ decimal weight) named.1 ∙ ap (λ (b : List ℕ). front ++ 58 ∷ b) weighed.1))

-- what is read as a voter is its word
pub voter_of-some : (word : List ℕ) (voter : Voter) → voter_of word ≡ Some voter → IsLawfulVoter voter × (voter_word voter ≡ word)
voter_of-some word voter is =
    let parts = cut_of-some read_parts word voter is in
    let read = voter_from-some parts.0 parts.1 _ _ voter refl refl parts.3 in
    (read.0, read.1 ∙ sym parts.2)

-- no byte of a voter's word is a space
pub whole-voter : (voter : Voter) → IsLawfulVoter voter → IsWhole 32 (voter_word voter)
whole-voter voter h =
    each-append (λ b. (b == 32) ≡ false) voter.name (58 ∷ decimal voter.weight) (whole-name 32 refl voter.name h.name)
    (refl, whole-decimal 32 voter.weight (inl (omega arith)) (omega (arith, h.weight)))
