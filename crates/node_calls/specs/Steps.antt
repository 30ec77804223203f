-- Calls on a node, one after the other.
use Rattle.std.specs.Prelude.{◌≡◌, ℕ, List, [], ◌∷◌, Option, Result}
use Rattle.std.specs.Result.{IsErr}
use Rattle.px_base.specs.Object.{GitObject}
use Rattle.px_base.specs.RefList.{IsRefList, References}
use Rattle.px_base.specs.declared.hash.Hash.{Hash}
use Rattle.px_base.specs.declared.push.Push.{Push}
use Rattle.px_base.specs.Update.{AreUpdates}
use Rattle.node_calls.specs.Calls.{AbortRefuses, Aborts, ApplyRefuses, Applies, CommitRefuses, Commits, CreateRefuses, Creates, PrepareRefuses, Prepares, RemoveRefuses, Removes}
use Rattle.node_calls.specs.Ends.{Ends, FenceEnds, ListEnds, PingEnds, ReadEnds}
use Rattle.node_calls.specs.ReplicaState.{NodeState, Same, without_ready}
use Rattle.node_calls.specs.Reads.{HasObject, HasRefs, IsSnapshot}
use Rattle.node_calls.specs.declared.node.NodeError.{NodeError}
use Rattle.node_calls.specs.declared.snapshot.Snapshot.{Snapshot}

-- the call was not done, and the node has of each repository what it had
pub record HasNoEffect {A : Type 0} (result : Result A NodeError) (old new : NodeState) : Type 0
  where
    pub failed : IsErr result
    pub same : Same old new

-- some call on a node led from the one to the other, whatever it answered, also a fault or want of
-- memory; or the process of the node ended, and each push that was ready is lost. The updates of a
-- push and the references of a snapshot are such as their types keep them
pub data IsStep (old new : NodeState) : Type 0 where
  create : (lease : ℕ) (path : List ℕ) (result : Result (Unit {0}) NodeError)
      → Ends (CreateRefuses lease) (Creates lease) path result old new → IsStep old new
  prepare : (lease : ℕ) (push : Push) (path : List ℕ) (result : Result Hash NodeError)
      → AreUpdates push.updates
      → Ends (PrepareRefuses lease push) (Prepares lease push) path result old new
      → IsStep old new
  commit : (lease : ℕ) (hash : Hash) (path : List ℕ) (result : Result Hash NodeError)
      → Ends (CommitRefuses lease hash) (Commits lease hash) path result old new → IsStep old new
  abort : (lease : ℕ) (path : List ℕ) (result : Result (Unit {0}) NodeError)
      → Ends (AbortRefuses lease) (Aborts lease) path result old new → IsStep old new
  fence : (lease : ℕ) (path : List ℕ) (result : Result (Option ℕ) NodeError)
      → FenceEnds lease path result old new → IsStep old new
  refs : (path : List ℕ) (result : Result References NodeError)
      → ReadEnds HasRefs path result old new → IsStep old new
  object : (id : Hash) (path : List ℕ) (result : Result (Option GitObject) NodeError)
      → ReadEnds (HasObject id) path result old new → IsStep old new
  snapshot : (path : List ℕ) (result : Result Snapshot NodeError)
      → ReadEnds IsSnapshot path result old new → IsStep old new
  apply : (lease : ℕ) (given : Snapshot) (path : List ℕ) (result : Result (Unit {0}) NodeError)
      → IsRefList given.refs
      → Ends (ApplyRefuses lease given) (Applies lease given) path result old new
      → IsStep old new
  remove : (lease : ℕ) (path : List ℕ) (result : Result (Unit {0}) NodeError)
      → Ends (RemoveRefuses lease) (Removes lease) path result old new → IsStep old new
  list : (result : Result (List (List ℕ)) NodeError) → ListEnds result old new → IsStep old new
  ping : PingEnds old new → IsStep old new
  loses_ready : ((path : List ℕ) → new path ≡ without_ready (old path)) → IsStep old new

-- each node of the list comes from the one before by a step, and so does the last
abbrev pub Runs : NodeState → List NodeState → NodeState → Type 0
Runs from [] to = from ≡ to
Runs from (next ∷ nodes) to = IsStep from next × Runs next nodes to

-- steps lead from the one node to the other, as many as there are
pub record IsRun (old new : NodeState) : Type 0 where
  pub nodes : List NodeState
  pub runs : Runs old nodes new
