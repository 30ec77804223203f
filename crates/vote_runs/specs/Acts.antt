-- What becomes of a transaction over moves: acts lead it on, from an opening by a lawful poll.
use Rattle.std.specs.Prelude.{◌≡◌, ◌≤◌, ℕ, List, Some}
use Rattle.node_calls.specs.ReplicaState.{NodeState}
use Rattle.px_base.specs.declared.ids.TxId.{TxId}
use Rattle.txmanager.specs.Rounds.{TxAct, after_acts, opened}
use Rattle.txmanager.specs.Voting.{Voting}
use Rattle.voters.specs.Rule.{IsPoll}
use Rattle.voters.specs.Votes.{Poll}
use Rattle.px_cluster.specs.Astray.{Move, MovesOn}
use Rattle.px_cluster.specs.Cluster.{Cluster, starting_with}
use Rattle.px_cluster.specs.Core.{voting}

-- all voters together reach its threshold, which is above half of their weight; and it is what some acts
-- made of its opening, when each of its subtransactions was open
pub record IsOfPoll (vote : Voting) : Type 0 where
  pub poll : Poll
  pub lawful : IsPoll poll
  pub count : ℕ
  pub acts : List TxAct
  pub subs : vote.subs ≡ after_acts acts (opened poll count)

-- some acts lead from the one to the other, of the same voters
pub record IsLedOn (before now : Voting) : Type 0 where
  pub voters : now.voters ≡ before.voters
  pub acts : List TxAct
  pub subs : now.subs ≡ after_acts acts before.subs

-- it was on record before, and acts led it on
pub record WasOnRecord (old : Cluster) (tx : TxId) (now : Voting) : Type 0 where
  pub before : Voting
  pub there : voting old.core tx ≡ Some before
  pub led : IsLedOn before now

-- After every list of moves each transaction on record is what some acts made of its opening.
abbrev pub TransactionsAreOfPolls : Type 0
TransactionsAreOfPolls = (node : ℕ → NodeState) (moves : List Move) (new : Cluster) (tx : TxId)
    (now : Voting) → MovesOn (starting_with node) moves new → voting new.core tx ≡ Some now
    → IsOfPoll now

-- Of two states of one run, the one before the other: a transaction whose number was given in the first
-- and that is on record in the second was on record in the first, and acts led it on. So a number is
-- given once, and what is closed does not come back.
abbrev pub TransactionsGoOnByActs : Type 0
TransactionsGoOnByActs = (node : ℕ → NodeState) (moves more : List Move) (old new : Cluster)
    (tx : TxId) (now : Voting) → MovesOn (starting_with node) moves old → MovesOn old more new
    → tx.0 ≤ old.core.last_tx → voting new.core tx ≡ Some now → WasOnRecord old tx now
