-- What is asked of a list of moves: of the pushes that it prepares, and of the nodes that it begins with.
use Rattle.std.specs.Prelude.{◌≡◌, ◌⊎◌, ℕ, List, [], ◌∷◌, Option, None, Some}
use Rattle.node_calls.specs.ReplicaState.{NodeState, nothing}
use Rattle.node_calls.specs.Whole.{IsWhole}
use Rattle.px_base.specs.Update.{AreUpdates}
use Rattle.px_base.specs.declared.ids.TxId.{TxId}
use Rattle.px_base.specs.declared.push.Push.{Push}
use Rattle.refstore.specs.Hook.{vote_on}
use Rattle.px_cluster.specs.Astray.{GoesAstray, Happens, IsLost, Move}
use Rattle.px_cluster.specs.Events.{Event}
use Rattle.px_cluster.specs.Events as event
use Rattle.cluster_history.specs.Goes.{IsQuiet}

-- ---- pushes that are prepared

-- a push that is handed to a member of a transaction
pub record Prepared : Type 0 where
  pub tx : TxId
  pub push : Push

abbrev pub prepared_by_event : Event → Option Prepared
prepared_by_event (event.Prepare tx storage push) = Some (record { tx = tx; push = push })
prepared_by_event other = None

-- whether the node's answer comes or is lost
abbrev pub prepared_by : Move → Option Prepared
prepared_by (Happens happened answer) = prepared_by_event happened
prepared_by (GoesAstray happened) = prepared_by_event happened
prepared_by (IsLost storage test) = None

-- one of the moves hands this push to a member of the transaction
abbrev pub IsPreparedIn : List Move → TxId → Push → Type 0
IsPreparedIn [] tx push = ⊥
IsPreparedIn (move ∷ moves) tx push =
    (prepared_by move ≡ Some (record { tx = tx; push = push })) ⊎ IsPreparedIn moves tx push

-- The premise on hashes: no two different lists of updates that are prepared under one transaction
-- share a vote, which is the SHA-1 of what Git's reference-transaction hook is given of them.
abbrev pub HaveOneList : List Move → Type 0
HaveOneList moves = (tx : TxId) (one other : Push) → IsPreparedIn moves tx one
    → IsPreparedIn moves tx other → vote_on one.updates ≡ vote_on other.updates
    → one.updates ≡ other.updates

-- the updates of each push are such as the type of pushes keeps them
abbrev pub AreLawful : List Move → Type 0
AreLawful moves = (tx : TxId) (push : Push) → IsPreparedIn moves tx push → AreUpdates push.updates

-- ---- the nodes to begin with

-- They may hold repositories that are not on record, each whole, and with no push that is ready: as
-- where no process of theirs ever ran, or all of them have ended.
pub record AreFit (node : ℕ → NodeState) : Type 0 where
  pub whole : (storage : ℕ) → IsWhole (node storage)
  pub quiet : (storage : ℕ) (path : List ℕ) → IsQuiet (node storage path)

-- nodes that hold nothing are so
abbrev pub EmptyNodesAreFit : Type 0
EmptyNodesAreFit = AreFit (λ storage path. nothing)
