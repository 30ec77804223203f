-- Calls that change the manager's transactions, refused or not, and what lists of them leave.
use Rattle.std.specs.Prelude.{◌≡◌, ℕ, if◌then◌else◌, List, [], ◌∷◌, position, Contains, Some}
use Rattle.std.specs.List.{AllByRecursion}
use Rattle.px_base.specs.declared.hash.Hash.{Hash}
use Rattle.px_base.specs.declared.ids.TxId.{TxId}
use Rattle.px_base.specs.declared.phase.Phase.{Phase}
use Rattle.px_base.specs.declared.voter.Voter.{Voter}
use Rattle.voters.specs.Panel.{IsPanel, Roster, poll_of, same_name}
use Rattle.voters.specs.Votes.{Poll, Votes}
use Rattle.txmanager.specs.Registry.{Registry, are_lawful_rounds, with_changed, with_registered, without_transaction}
use Rattle.txmanager.specs.VoterCalls.{after_cancel_voter, after_cast}
use Rattle.txmanager.specs.Voting.{Voting, after_cancel, after_stop, voting_on}

-- a call that changes transactions; a voter is its name
pub data Call : Type 0 where
  Register : (tx : TxId) → (panel : Roster) → (rounds : ℕ) → Call
  Cast : (tx : TxId) → (voter : List ℕ) → (phase : Phase) → (hash : Hash) → Call
  CancelVoter : (tx : TxId) → (voter : List ℕ) → Call
  Cancel : (tx : TxId) → Call
  Stop : (tx : TxId) → Call
  Close : (tx : TxId) → Call

-- what a call leaves
abbrev pub called : Registry → Call → Registry
called registry (Register tx panel rounds) =
    if are_lawful_rounds rounds then with_registered registry tx (voting_on panel rounds)
    else registry
called registry (Cast tx voter phase hash) = with_changed registry tx (after_cast voter phase hash)
called registry (CancelVoter tx voter) = with_changed registry tx (after_cancel_voter voter)
called registry (Cancel tx) = with_changed registry tx after_cancel
called registry (Stop tx) = with_changed registry tx after_stop
called registry (Close tx) = without_transaction registry tx

-- what a list of calls leaves
abbrev pub all_called : List Call → Registry → Registry
all_called [] registry = registry
all_called (call ∷ calls) registry = all_called calls (called registry call)

-- the call registers a transaction of a panel, or none
abbrev pub IsOfPanel : Call → Type 0
IsOfPanel (Register tx panel rounds) = IsPanel panel.voters panel.threshold
IsOfPanel (Cast tx voter phase hash) = Unit {0}
IsOfPanel (CancelVoter tx voter) = Unit {0}
IsOfPanel (Cancel tx) = Unit {0}
IsOfPanel (Stop tx) = Unit {0}
IsOfPanel (Close tx) = Unit {0}

-- transactions are registered of panels only
abbrev pub AreOfPanels : List Call → Type 0
AreOfPanels calls = AllByRecursion IsOfPanel calls

-- a cast of that hash in that transaction is among the calls, by the name of the voter
pub record IsCastOn (calls : List Call) (tx : TxId) (voters : List Voter) (voter : ℕ) (hash : Hash)
    : Type 0 where
  pub name : List ℕ
  pub phase : Phase
  pub there : Contains calls (Cast tx name phase hash)
  pub by : position (same_name name) voters ≡ Some voter

-- what a subtransaction of the transaction is voted by
abbrev pub poll_in : Voting → Votes → Poll
poll_in voting sub = poll_of (record { voters = voting.voters; threshold = sub.threshold })
