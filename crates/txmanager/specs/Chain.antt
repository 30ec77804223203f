-- What is true of the subtransactions of a transaction after any acts.
use Rattle.std.specs.Prelude.{◌≡◌, ◌≤◌, ℕ, true, List, [], ◌∷◌, length}
use Rattle.std.specs.List.{AllByRecursion}
use Rattle.px_base.specs.declared.voter.Voter.{Voter}
use Rattle.voters.specs.Results.{committed_in, voted_in}
use Rattle.voters.specs.Sub.{IsSound}
use Rattle.voters.specs.Votes.{Votes}

-- who voted in the later one is committed in the earlier one
abbrev pub Follows : Votes → Votes → Type 0
Follows sub later = (voter : ℕ) → voted_in voter later ≡ true → committed_in voter sub ≡ true

-- each is sound, and whoever voted in one is committed in each earlier one
abbrev pub IsChain : List Votes → Type 0
IsChain [] = Unit {0}
IsChain (sub ∷ later) =
    IsSound sub × AllByRecursion (λ next. Follows sub next) later × IsChain later

-- a chain of at most 8 rounds
pub record IsRounds (subs : List Votes) : Type 0 where
  pub chain : IsChain subs
  pub few : length subs ≤ 16

-- what is true of a transaction after any acts
pub record IsTransaction (voters : List Voter) (subs : List Votes) : Type 0 where
  pub few : length voters ≤ 64
  pub rounds : IsRounds subs
