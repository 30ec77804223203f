-- What each subtransaction comes to by the calls on it alone.
use Rattle.std.specs.Prelude.{◌≡◌, ℕ, true, List, [], ◌∷◌, slice_get, Contains, Option, None, Some}
use Rattle.std.specs.List.{AllByRecursion, list_any}
use Rattle.px_base.specs.declared.hash.Hash.{Hash}
use Rattle.voters.specs.Calls.{Call, AreAccepted, acts_of, all_called}
use Rattle.voters.specs.Calls as call
use Rattle.voters.specs.Refusals.{cancel_refusal, cast_refusal}
use Rattle.voters.specs.Results.{result_at}
use Rattle.voters.specs.Rule.{IsOutcome, rule_result_at}
use Rattle.voters.specs.Votes.{Poll, Votes, start}
use Rattle.txmanager.specs.Rounds.{TxAct, Cast, CancelVoter, Cancel, Stop, after_act, current}
use Rattle.txmanager.specs.Voting.{can_stop}

-- there is a subtransaction, and it has no refusal
abbrev pub IsNotRefused : {E : Type 0} → (Votes → Option E) → Option Votes → Type 0
IsNotRefused refusal None = ⊥
IsNotRefused refusal (Some sub) = refusal sub ≡ None

-- An act is accepted: the voter has a current subtransaction, which does not refuse it. For a stop
-- one has to be open, and a cancel of the transaction is accepted always.
abbrev pub IsAcceptedAct : List Votes → TxAct → Type 0
IsAcceptedAct subs (Cast voter hash) =
    IsNotRefused (λ sub. cast_refusal sub voter) (slice_get subs (current voter subs))
IsAcceptedAct subs (CancelVoter voter) =
    IsNotRefused (λ sub. cancel_refusal sub voter) (slice_get subs (current voter subs))
IsAcceptedAct subs Cancel = Unit {0}
IsAcceptedAct subs Stop = list_any can_stop subs ≡ true

-- each of a list of acts is accepted as it comes
abbrev pub AreAcceptedActs : List Votes → List TxAct → Type 0
AreAcceptedActs subs [] = Unit {0}
AreAcceptedActs subs (act ∷ acts) =
    IsAcceptedAct subs act × AreAcceptedActs (after_act subs act) acts

-- a cast of that hash by the voter is among the acts
abbrev pub IsCastAmong : List TxAct → ℕ → Hash → Type 0
IsCastAmong acts voter hash = Contains acts (Cast voter hash)

-- the call is a cast that was made, or no cast
abbrev pub IsMade : (ℕ → Hash → Type 0) → Call → Type 0
IsMade Made (call.Cast voter hash) = Made voter hash
IsMade Made (call.Cancel voter) = Unit {0}
IsMade Made call.Cancel_all = Unit {0}
IsMade Made call.Stop = Unit {0}

-- The subtransaction is what a list of calls on it alone leaves from its start. It accepts each of
-- them, and each cast among them was made.
pub record IsRun (Made : ℕ → Hash → Type 0) (poll : Poll) (sub : Votes) : Type 0 where
  pub calls : List Call
  pub accepted : AreAccepted (start poll) calls
  pub made : AllByRecursion (IsMade Made) calls
  pub is : sub ≡ all_called calls (start poll)

-- .. and its outcome and results are those that the rule of one vote says of the acts of these calls
pub record IsByRule (Made : ℕ → Hash → Type 0) (poll : Poll) (sub : Votes) : Type 0 where
  pub run : IsRun Made poll sub
  pub outcome : IsOutcome poll (acts_of (start poll) run.calls) sub.outcome
  pub results : (voter : ℕ) → result_at sub voter
      ≡ rule_result_at poll (acts_of (start poll) run.calls) sub.outcome voter
