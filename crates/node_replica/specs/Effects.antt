-- What the effects of a commit and of an apply leave at a replica.
use Rattle.std.specs.Prelude.{◌≡◌, ◌+◌, ℕ, List, true, Some, None}
use Rattle.px_base.specs.Object.{GitObject}
use Rattle.px_base.specs.RefList.{IsRefList, References}
use Rattle.px_base.specs.declared.hash.Hash.{Hash}
use Rattle.objstore.specs.Bundle.{bundle_fault, with_objects}
use Rattle.refstore.specs.Hook.{vote_on}
use Rattle.refstore.specs.Updates.{Fits}
use Rattle.node_calls.specs.Calls.{ApplyRefuses, committed, ready_under}
use Rattle.node_calls.specs.ReplicaState.{Changes, NodeState, ReplicaState, ReadyPush, raised}
use Rattle.node_calls.specs.declared.node.NodeError.{NodeError}
use Rattle.node_calls.specs.declared.node.NodeError.TheVariants.{Fault, Memory, Refused}
use Rattle.node_calls.specs.declared.snapshot.Snapshot.{Snapshot}

-- the push that was ready under the lease is done, and this is its vote
pub record DoesReady (lease : ℕ) (old new : ReplicaState) (vote : Hash) : Type 0 where
  pub push : ReadyPush
  pub ready : ready_under lease old.ready ≡ Some push
  pub is : vote ≡ vote_on push.updates
  pub done : new ≡ committed lease push old

-- the place with these references, and with these objects beside its own
abbrev pub taken_over : ℕ → References → List GitObject → ReplicaState → ReplicaState
taken_over lease refs objects place = raised (lease + 1) (record place {
  held = true;
  refs = refs;
  objects = with_objects place.objects objects;
})

-- a snapshot is refused, or memory wants
abbrev pub IsNotApplied : ℕ → Snapshot → ReplicaState → NodeError → Type 0
IsNotApplied lease snapshot place (Refused r) = ApplyRefuses lease snapshot place r
IsNotApplied lease snapshot place Memory = Unit {0}
IsNotApplied lease snapshot place Fault = ⊥

-- the node did the push that was ready, and this is its vote
pub record CommitsAt (lease : ℕ) (path : List ℕ) (old new : NodeState) (vote : Hash) : Type 0 where
  pub place : ReplicaState
  pub does_ : DoesReady lease (old path) place vote
  pub changes : Changes old new path place

-- a ready push may be done at the place: the references are what a repository may have, its updates
-- may be done, and its objects may come
pub record MayBeDone (place : ReplicaState) (push : ReadyPush) : Type 0 where
  pub refs : IsRefList place.refs
  pub fits : Fits push.updates place.refs
  pub comes : bundle_fault place.objects 0 push.objects ≡ None
