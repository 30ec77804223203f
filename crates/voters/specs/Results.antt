-- What a subtransaction came to for each voter.
use Rattle.std.specs.Prelude.{ℕ, ◌+◌, Bool, true, false, if◌then◌else◌, List, [], ◌∷◌, slice_get, is_none, not, ◌&&◌, Option, None, Some}
use Rattle.std.specs.Option.{option_map}
use Rattle.px_base.specs.declared.hash.Hash.{Hash}
use Rattle.px_base.specs.Hash.{same_hash}
use Rattle.voters.specs.declared.mark.Mark.{Mark}
use Rattle.voters.specs.declared.outcome.Outcome.{Outcome}
use Rattle.voters.specs.declared.outcome.Outcome.TheVariants.{Open, Commit, Fail, Stop}
use Rattle.voters.specs.declared.voter_result.VoterResult.{VoterResult}
use Rattle.voters.specs.declared.voter_result.VoterResult.TheVariants.{Open as Undecided, Committed, Failed, Canceled, Stopped}
use Rattle.voters.specs.Marks.{standing_weight, total_weight}
use Rattle.voters.specs.Verdict.{Standing, standing_with}
use Rattle.voters.specs.Votes.{Votes}

-- a hash with the weight that stands for it now
abbrev pub standing_of : Votes → Hash → Standing
standing_of votes hash =
    standing_with hash (standing_weight hash votes.marks) votes.threshold (total_weight votes.marks)

-- a voter's result, by whether it was canceled, the outcome and its vote
abbrev pub result_by : Bool → Outcome → Option Hash → (Hash → Standing) → VoterResult
result_by true outcome vote standing = Canceled
result_by false Stop vote standing = Stopped
result_by false Open vote standing = Undecided
result_by false (Commit hash) None standing = Undecided
result_by false Fail None standing = Undecided
result_by false (Commit hash) (Some own) standing =
    if same_hash hash own then Committed (standing own) else Failed
result_by false Fail (Some own) standing = Failed

-- the result of a voter with that mark
abbrev pub result_of : Votes → Mark → VoterResult
result_of votes mark = result_by mark.canceled votes.outcome mark.vote (standing_of votes)

-- the result of a voter, where there is such a voter
abbrev pub result_at : Votes → ℕ → Option VoterResult
result_at votes voter = option_map (result_of votes) (slice_get votes.marks voter)

-- the result may still change, or the voter has not voted
abbrev pub is_undecided : VoterResult → Bool
is_undecided Undecided = true
is_undecided (Committed standing) = false
is_undecided Failed = false
is_undecided Canceled = false
is_undecided Stopped = false

-- the voters with an undecided result, of those from number i on
abbrev pub undecided_from : Votes → ℕ → List Mark → List ℕ
undecided_from votes i [] = []
undecided_from votes i (mark ∷ marks) =
    if is_undecided (result_of votes mark) then i ∷ undecided_from votes (i + 1) marks
    else undecided_from votes (i + 1) marks

-- the numbers of the undecided voters, in the order of the panel
abbrev pub undecided_voters : Votes → List ℕ
undecided_voters votes = undecided_from votes 0 votes.marks

-- whether a result is undecided, by the outcome and the mark alone
abbrev pub still_open : Outcome → Option Hash → Bool
still_open Open vote = true
still_open (Commit hash) vote = is_none vote
still_open Fail vote = is_none vote
still_open Stop vote = false

-- the same, with the cancel
abbrev pub undecided_by : Outcome → Mark → Bool
undecided_by outcome mark = not mark.canceled && still_open outcome mark.vote

-- the result is committed
abbrev pub is_committed : VoterResult → Bool
is_committed Undecided = false
is_committed (Committed standing) = true
is_committed Failed = false
is_committed Canceled = false
is_committed Stopped = false

-- the same, where there may be no such voter
abbrev pub is_committed_at : Option VoterResult → Bool
is_committed_at None = false
is_committed_at (Some result) = is_committed result

-- the voter's result is committed
abbrev pub committed_in : ℕ → Votes → Bool
committed_in voter votes = is_committed_at (result_at votes voter)

-- there is a mark, and it has a vote
abbrev pub has_vote : Option Mark → Bool
has_vote None = false
has_vote (Some mark) = not (is_none mark.vote)

-- the voter has voted
abbrev pub voted_in : ℕ → Votes → Bool
voted_in voter votes = has_vote (slice_get votes.marks voter)
