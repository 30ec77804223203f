-- When a call of a subtransaction is refused, and why.
use Rattle.std.specs.Prelude.{ℕ, Bool, true, false, if◌then◌else◌, slice_get, Option, None, Some}
use Rattle.std.specs.Option.{option_map}
use Rattle.voters.specs.declared.mark.Mark.{Mark}
use Rattle.voters.specs.declared.outcome.Outcome.{Outcome}
use Rattle.voters.specs.declared.outcome.Outcome.TheVariants.{Open, Commit, Fail, Stop}
use Rattle.voters.specs.declared.voter_result.VoterResult.{VoterResult}
use Rattle.voters.specs.declared.voter_result.VoterResult.TheVariants as result
use Rattle.voters.specs.declared.sub.CastRefusal.{CastRefusal}
use Rattle.voters.specs.declared.sub.CastRefusal.TheVariants as cast
use Rattle.voters.specs.declared.sub.CancelRefusal.{CancelRefusal}
use Rattle.voters.specs.declared.sub.CancelRefusal.TheVariants as cancel
use Rattle.voters.specs.declared.sub.StopRefusal.{StopRefusal}
use Rattle.voters.specs.declared.sub.StopRefusal.TheVariants as stop
use Rattle.voters.specs.Results.{result_of}
use Rattle.voters.specs.Votes.{Votes}

-- the outcome is a stop
abbrev pub is_stopped : Outcome → Bool
is_stopped Open = false
is_stopped (Commit hash) = false
is_stopped Fail = false
is_stopped Stop = true

-- by the outcome, and by the mark where there is such a voter
abbrev pub cast_refusal_at : Outcome → Option Mark → Option CastRefusal
cast_refusal_at outcome None = Some cast.NotAVoter
cast_refusal_at outcome (Some mark) =
    if mark.canceled then Some cast.Canceled
    else if is_stopped outcome then Some cast.Stopped
    else option_map cast.AlreadyVoted mark.vote

-- the first reason why a voter can not cast
abbrev pub cast_refusal : Votes → ℕ → Option CastRefusal
cast_refusal votes voter = cast_refusal_at votes.outcome (slice_get votes.marks voter)

-- by the voter's result: only an undecided voter is canceled
abbrev pub cancel_refusal_for : VoterResult → Option CancelRefusal
cancel_refusal_for result.Open = None
cancel_refusal_for (result.Committed verdict) = Some cancel.Decided
cancel_refusal_for result.Failed = Some cancel.Decided
cancel_refusal_for result.Canceled = Some cancel.Canceled
cancel_refusal_for result.Stopped = Some cancel.Stopped

-- by the mark, where there is such a voter
abbrev pub cancel_refusal_at : Votes → Option Mark → Option CancelRefusal
cancel_refusal_at votes None = Some cancel.NotAVoter
cancel_refusal_at votes (Some mark) = cancel_refusal_for (result_of votes mark)

-- the first reason why a voter can not be canceled
abbrev pub cancel_refusal : Votes → ℕ → Option CancelRefusal
cancel_refusal votes voter = cancel_refusal_at votes (slice_get votes.marks voter)

-- by the outcome: only what is open is stopped
abbrev pub stop_refusal_for : Outcome → Option StopRefusal
stop_refusal_for Open = None
stop_refusal_for (Commit hash) = Some stop.Decided
stop_refusal_for Fail = Some stop.Decided
stop_refusal_for Stop = Some stop.Stopped

-- the reason why a subtransaction can not be stopped
abbrev pub stop_refusal : Votes → Option StopRefusal
stop_refusal votes = stop_refusal_for votes.outcome
