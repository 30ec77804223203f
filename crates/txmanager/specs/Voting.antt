-- A transaction by the names of its voters: its state, and what the calls on it as a whole and its
-- reads answer.
use Rattle.std.specs.Prelude.{ℕ, ◌*◌, ◌-◌, ◌==◌, Bool, is_none, if◌then◌else◌, List, position, slice_get, Option, None, Some, Result, Ok, Err}
use Rattle.std.specs.List.{list_any}
use Rattle.px_base.specs.declared.voter.Voter.{Voter}
use Rattle.voters.specs.Panel.{Roster, poll_of, same_name}
use Rattle.voters.specs.Refusals as sub
use Rattle.voters.specs.Results.{result_at}
use Rattle.voters.specs.Votes.{Votes}
use Rattle.voters.specs.declared.outcome.Outcome.{Outcome}
use Rattle.voters.specs.declared.voter_result.VoterResult.{VoterResult}
use Rattle.txmanager.specs.Rounds.{TxAct, Cancel, Stop, after_act, opened}
use Rattle.txmanager.specs.declared.refusal.TxRefusal.{TxRefusal}
use Rattle.txmanager.specs.declared.refusal.TxRefusal.TheVariants.{NotAVoter, Decided, NoSub}

-- who may vote, in the order of the panel, and the subtransactions in their order
pub record Voting : Type 0 where
  pub voters : List Voter
  pub subs : List Votes

-- a transaction of so many rounds before any act: each round has two subtransactions
abbrev pub voting_on : Roster → ℕ → Voting
voting_on panel rounds = record {
  voters = panel.voters;
  subs = opened (poll_of panel) (2 * rounds);
}

-- the transaction after an act
abbrev pub with_act : Voting → TxAct → Voting
with_act voting act = record { voters = voting.voters; subs = after_act voting.subs act }

-- the number, from 0, of the voter with this name
abbrev pub number_of : List ℕ → Voting → Option ℕ
number_of name voting = position (same_name name) voting.voters

-- the same after the act of a voter, where there is such a voter
abbrev pub with_act_by : Voting → Option ℕ → (ℕ → TxAct) → Voting
with_act_by voting None act = voting
with_act_by voting (Some voter) act = with_act voting (act voter)

-- what an answer leaves: all as it was where it is a refusal, and else the new state
abbrev pub unless_err : {A E S : Type 0} → Result A E → S → S → S
unless_err (Ok value) old new = new
unless_err (Err refusal) old new = old

-- the result of a voter in a subtransaction, where there is such a voter
abbrev pub counted : List ℕ → Option VoterResult → Result VoterResult TxRefusal
counted name None = Err (NotAVoter name)
counted name (Some result) = Ok result

-- a cancel of the transaction is not refused, nor is its end: it is done
abbrev pub done : Voting → Result (Unit {0}) TxRefusal
done voting = Ok tt

-- what a cancel of the transaction leaves
abbrev pub after_cancel : Voting → Voting
after_cancel voting = with_act voting Cancel

-- the subtransaction can be stopped: it is open
abbrev pub can_stop : Votes → Bool
can_stop votes = is_none (sub.stop_refusal votes)

-- a stop is refused where no subtransaction is open
abbrev pub stop_answer : Voting → Result (Unit {0}) TxRefusal
stop_answer voting = if list_any can_stop voting.subs then Ok tt else Err Decided

-- and what it leaves
abbrev pub after_stop : Voting → Voting
after_stop voting = unless_err (stop_answer voting) voting (with_act voting Stop)

-- the subtransaction of a number, counted from 1
abbrev pub sub_at : ℕ → Voting → Option Votes
sub_at number voting = if number == 0 then None else slice_get voting.subs (number - 1)

-- the result of a voter in a subtransaction, where there is such a one
abbrev pub collect_in : List ℕ → ℕ → ℕ → Option Votes → Result VoterResult TxRefusal
collect_in name number voter None = Err (NoSub number)
collect_in name number voter (Some votes) = counted name (result_at votes voter)

-- the same, by the number that the voter has
abbrev pub collect_answer_by : List ℕ → ℕ → Voting → Option ℕ → Result VoterResult TxRefusal
collect_answer_by name number voting None = Err (NotAVoter name)
collect_answer_by name number voting (Some voter) =
    collect_in name number voter (sub_at number voting)

-- the result of the voter of a name in a subtransaction
abbrev pub collect_answer : List ℕ → ℕ → Voting → Result VoterResult TxRefusal
collect_answer name number voting =
    collect_answer_by name number voting (number_of name voting)

-- the outcome of a subtransaction, where there is such a one
abbrev pub outcome_of : ℕ → Option Votes → Result Outcome TxRefusal
outcome_of number None = Err (NoSub number)
outcome_of number (Some votes) = Ok votes.outcome

abbrev pub outcome_answer : ℕ → Voting → Result Outcome TxRefusal
outcome_answer number voting = outcome_of number (sub_at number voting)
