-- What is read of the subtransactions, for the laws.
use Rattle.std.specs.Prelude.{◌≡◌, ℕ, zero, suc, ◌<◌, Bool, true, false, List, slice_get, Option, None, Some}
use Rattle.std.specs.Option.{option_map}
use Rattle.voters.specs.Results.{committed_in, result_at}
use Rattle.voters.specs.Votes.{Votes, changed_at}
use Rattle.voters.specs.declared.mark.Mark.{Mark}
use Rattle.voters.specs.declared.outcome.Outcome.{Outcome}
use Rattle.voters.specs.declared.voter_result.VoterResult.{VoterResult}
use Rattle.txmanager.specs.Rounds.{is_out, stopped}

-- the outcome of a subtransaction, counted from 0
abbrev pub outcome_in : ℕ → List Votes → Option Outcome
outcome_in i subs = option_map (λ sub. sub.outcome) (slice_get subs i)

-- whether the voter's result is committed there
abbrev pub committed_at : ℕ → ℕ → List Votes → Option Bool
committed_at voter i subs = option_map (committed_in voter) (slice_get subs i)

-- there is such a voter, and it is out
abbrev pub is_out_at : Option VoterResult → Bool
is_out_at None = false
is_out_at (Some result) = is_out result

-- there is such a voter, and it has a cancel
abbrev pub is_canceled : Option Mark → Bool
is_canceled None = false
is_canceled (Some mark) = mark.canceled

-- the voter is out of a subtransaction in front of number i
pub record IsOutBefore (voter i : ℕ) (subs : List Votes) : Type 0 where
  pub at : ℕ
  pub sub : Votes
  pub before : at < i
  pub there : slice_get subs at ≡ Some sub
  pub out : is_out_at (result_at sub voter) ≡ true

-- a stop of the first n subtransactions, from the last of them to the first
abbrev pub stopped_back : ℕ → List Votes → List Votes
stopped_back zero subs = subs
stopped_back (suc n) subs = stopped_back n (changed_at n stopped subs)
