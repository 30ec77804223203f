-- A cast and a cancel of a voter, by its name: what they are answered, and what they leave.
use Rattle.std.specs.Prelude.{ℕ, ◌+◌, ◌%◌, ◌==◌, if◌then◌else◌, List, slice_get, Option, None, Some, Result, Ok, Err}
use Rattle.std.specs.Option.{option_map}
use Rattle.px_base.specs.declared.hash.Hash.{Hash}
use Rattle.px_base.specs.declared.phase.Phase.{Phase}
use Rattle.px_base.specs.declared.phase.Phase.TheVariants.{Prepared, Committed}
use Rattle.voters.specs.Refusals as sub
use Rattle.voters.specs.Results.{result_at}
use Rattle.voters.specs.Votes.{Votes, after}
use Rattle.voters.specs.declared.act.Act.TheVariants as act
use Rattle.voters.specs.declared.sub.CancelRefusal.{CancelRefusal}
use Rattle.voters.specs.declared.sub.CancelRefusal.TheVariants as cancel
use Rattle.voters.specs.declared.sub.CastRefusal.{CastRefusal}
use Rattle.voters.specs.declared.sub.CastRefusal.TheVariants as cast
use Rattle.voters.specs.declared.voter_result.VoterResult.{VoterResult}
use Rattle.txmanager.specs.Rounds.{Cast, CancelVoter, current}
use Rattle.txmanager.specs.Voting.{Voting, counted, number_of, unless_err, with_act_by}
use Rattle.txmanager.specs.declared.refusal.TxRefusal.{TxRefusal}
use Rattle.txmanager.specs.declared.refusal.TxRefusal.TheVariants.{NotAVoter, Finished, WrongPhase, Canceled, Stopped, AlreadyVoted, Decided}

-- an answer, or a refusal where there is one
abbrev pub unless_refused : {A E : Type 0} → Option E → Result A E → Result A E
unless_refused None answer = answer
unless_refused (Some refusal) answer = Err refusal

-- the phase of the subtransaction in front of which so many stand: the two phases take turns
abbrev pub phase_of : ℕ → Phase
phase_of at = if at % 2 == 0 then Prepared else Committed

-- a vote in another phase than the due one is refused
abbrev pub phase_refusal : Phase → Phase → Option TxRefusal
phase_refusal Prepared Prepared = None
phase_refusal Prepared Committed = Some (WrongPhase Committed)
phase_refusal Committed Prepared = Some (WrongPhase Prepared)
phase_refusal Committed Committed = None

-- what refuses a cast in a subtransaction, where the voter goes by a name
abbrev pub of_cast : List ℕ → CastRefusal → TxRefusal
of_cast name cast.NotAVoter = NotAVoter name
of_cast name cast.Canceled = Canceled
of_cast name cast.Stopped = Stopped
of_cast name (cast.AlreadyVoted hash) = AlreadyVoted hash

-- the same of a cancel
abbrev pub of_cancel : List ℕ → CancelRefusal → TxRefusal
of_cancel name cancel.NotAVoter = NotAVoter name
of_cancel name cancel.Canceled = Canceled
of_cancel name cancel.Stopped = Stopped
of_cancel name cancel.Decided = Decided

-- a cast in a subtransaction: its first refusal, or the result of the voter with the vote counted
abbrev pub cast_in_sub : List ℕ → ℕ → Hash → Votes → Result VoterResult TxRefusal
cast_in_sub name voter hash votes =
    unless_refused (option_map (of_cast name) (sub.cast_refusal votes voter))
    (counted name (result_at (after votes (act.Cast voter hash)) voter))

-- the same with the number of the subtransaction, counted from 1, which is the voter's current one
abbrev pub numbered : ℕ → Result VoterResult TxRefusal → Result (ℕ × VoterResult) TxRefusal
numbered number (Ok result) = Ok (number, result)
numbered number (Err refusal) = Err refusal

-- a cast in the voter's current subtransaction, of which so many stand in front: where it has none
-- it has finished, and else the phase has to be the due one
abbrev pub cast_in_current : List ℕ → Phase → ℕ → Hash → ℕ → Option Votes
    → Result (ℕ × VoterResult) TxRefusal
cast_in_current name phase voter hash at None = Err Finished
cast_in_current name phase voter hash at (Some votes) =
    unless_refused (phase_refusal phase (phase_of at))
    (numbered (at + 1) (cast_in_sub name voter hash votes))

-- what a cast is answered, by the number that the voter has
abbrev pub cast_answer_by : List ℕ → Phase → Hash → List Votes → Option ℕ
    → Result (ℕ × VoterResult) TxRefusal
cast_answer_by name phase hash subs None = Err (NotAVoter name)
cast_answer_by name phase hash subs (Some voter) =
    cast_in_current name phase voter hash (current voter subs)
    (slice_get subs (current voter subs))

-- what a cast of a hash in a phase by the voter of a name is answered
abbrev pub cast_answer : List ℕ → Phase → Hash → Voting → Result (ℕ × VoterResult) TxRefusal
cast_answer name phase hash voting =
    cast_answer_by name phase hash voting.subs (number_of name voting)

-- and what it leaves
abbrev pub after_cast : List ℕ → Phase → Hash → Voting → Voting
after_cast name phase hash voting =
    unless_err (cast_answer name phase hash voting) voting
    (with_act_by voting (number_of name voting) (λ voter. Cast voter hash))

-- a cancel of a voter in a subtransaction
abbrev pub cancel_in_sub : List ℕ → ℕ → Votes → Result (Unit {0}) TxRefusal
cancel_in_sub name voter votes =
    unless_refused (option_map (of_cancel name) (sub.cancel_refusal votes voter)) (Ok tt)

-- the same in the voter's current one, where it has one
abbrev pub cancel_in_current : List ℕ → ℕ → Option Votes → Result (Unit {0}) TxRefusal
cancel_in_current name voter None = Err Finished
cancel_in_current name voter (Some votes) = cancel_in_sub name voter votes

-- what a cancel of a voter is answered, by the number that it has
abbrev pub cancel_answer_by : List ℕ → List Votes → Option ℕ → Result (Unit {0}) TxRefusal
cancel_answer_by name subs None = Err (NotAVoter name)
cancel_answer_by name subs (Some voter) =
    cancel_in_current name voter (slice_get subs (current voter subs))

-- what a cancel of the voter of a name is answered
abbrev pub cancel_voter_answer : List ℕ → Voting → Result (Unit {0}) TxRefusal
cancel_voter_answer name voting = cancel_answer_by name voting.subs (number_of name voting)

-- and what it leaves
abbrev pub after_cancel_voter : List ℕ → Voting → Voting
after_cancel_voter name voting =
    unless_err (cancel_voter_answer name voting) voting
    (with_act_by voting (number_of name voting) CancelVoter)
