-- How the operations on transactions and their votes are spelled.
use Rattle.std.specs.Prelude.{◌≡◌, ◌<◌, ◌^◌, ℕ, List, [], ◌∷◌, ◌++◌, map, codes, decimal}
use Rattle.std.specs.List.{AllByRecursion}
use Rattle.px_base.specs.Hash.{hash_text, IsHash}
use Rattle.px_base.specs.StorageName.{IsStorageName}
use Rattle.px_base.specs.declared.voter.Voter.{Voter}
use Rattle.px_ops.specs.VoteTexts.{phase_word}
use Rattle.px_ops.specs.declared.op.Op.{Op}
use Rattle.px_ops.specs.declared.op.Op.TheVariants.{Open, Cast, Withdraw, Cancel, Stop, Close, Collect, Outcome}
use Rattle.px_script.specs.declared.event.Event.{Event}
use Rattle.px_script.specs.declared.event.Event.TheVariants.{Operation}

-- a voter as one word: its name, a colon, and its weight
abbrev pub voter_word : Voter → List ℕ
voter_word voter = voter.name ++ 58 ∷ decimal voter.weight

-- the words of an operation; numbers are decimal, with no sign and no leading zero; another operation
-- than these has none
abbrev pub vote_words : Op → List (List ℕ)
vote_words (Open threshold rounds voters) =
    codes "open" ∷ decimal threshold ∷ decimal rounds ∷ map voter_word voters
vote_words (Cast tx voter phase hash) =
    codes "cast" ∷ decimal tx.0 ∷ voter ∷ phase_word phase ∷ hash_text hash ∷ []
vote_words (Withdraw tx voter) = codes "withdraw" ∷ decimal tx.0 ∷ voter ∷ []
vote_words (Cancel tx) = codes "cancel" ∷ decimal tx.0 ∷ []
vote_words (Stop tx) = codes "stop" ∷ decimal tx.0 ∷ []
vote_words (Close tx) = codes "close" ∷ decimal tx.0 ∷ []
vote_words (Collect tx voter sub) =
    codes "collect" ∷ decimal tx.0 ∷ voter ∷ decimal sub ∷ []
vote_words (Outcome tx sub) = codes "outcome" ∷ decimal tx.0 ∷ decimal sub ∷ []
vote_words other = []

-- a voter whose name is that of a storage, and whose weight has 32 bits
pub record IsLawfulVoter (voter : Voter) : Type 0 where
  pub name : IsStorageName voter.name
  pub weight : voter.weight < 2 ^ 32

-- one of these operations, whose names are those of storages, whose hash has 20 bytes, and whose
-- numbers are in their ranges
abbrev pub IsLawfulVote : Op → Type 0
IsLawfulVote (Open threshold rounds voters) =
    (threshold < 2 ^ 64) × (rounds < 2 ^ 32) × AllByRecursion IsLawfulVoter voters
IsLawfulVote (Cast tx voter phase hash) = (tx.0 < 2 ^ 64) × IsStorageName voter × IsHash hash
IsLawfulVote (Withdraw tx voter) = (tx.0 < 2 ^ 64) × IsStorageName voter
IsLawfulVote (Cancel tx) = tx.0 < 2 ^ 64
IsLawfulVote (Stop tx) = tx.0 < 2 ^ 64
IsLawfulVote (Close tx) = tx.0 < 2 ^ 64
IsLawfulVote (Collect tx voter sub) = (tx.0 < 2 ^ 64) × IsStorageName voter × (sub < 2 ^ 32)
IsLawfulVote (Outcome tx sub) = (tx.0 < 2 ^ 64) × (sub < 2 ^ 32)
IsLawfulVote other = ⊥

-- the words are a line on votes that asks for the event
abbrev pub IsVoteLine : Event → List (List ℕ) → Type 0
IsVoteLine (Operation op) words = IsLawfulVote op × (words ≡ vote_words op)
IsVoteLine other words = ⊥
