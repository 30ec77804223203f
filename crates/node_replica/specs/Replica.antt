-- What a node over a keeper has of one repository, and how its ready push stands.
use Rattle.std.specs.Prelude.{◌≡◌, ℕ, Bool, true, false, [], Option, None, Some}
use Rattle.px_base.specs.RefList.{IsRefList, References}
use Rattle.px_base.specs.Update.{AreUpdates}
use Rattle.objstore.specs.Bundle.{bundle_fault}
use Rattle.objstore.specs.Entries.{Entries}
use Rattle.refstore.specs.Hook.{vote_on}
use Rattle.refstore.specs.Updates.{Fits}
use Rattle.node_calls.specs.ReplicaState.{ReadyPush}
use Rattle.node_replica.specs.declared.replica.Ready.{Ready}

-- the ready push, without its vote
abbrev pub push_of : Option Ready → Option ReadyPush
push_of None = None
push_of (Some ready) = Some (record {
  lease = ready.lease;
  updates = ready.updates;
  objects = ready.objects;
})

-- the references are what a repository may have; a ready push has its vote, its updates may be done and
-- are such as their type keeps them, its objects may come, and its lease is the fence
pub record IsReady (refs : References) (objects : Entries) (fence : ℕ) (ready : Ready) : Type 0 where
  pub vote : ready.vote ≡ vote_on ready.updates
  pub list : IsRefList refs
  pub fits : Fits ready.updates refs
  pub ids : AreUpdates ready.updates
  pub comes : bundle_fault objects 0 ready.objects ≡ None
  pub lease : ready.lease ≡ fence

abbrev pub AreReady : References → Entries → ℕ → Option Ready → Type 0
AreReady refs objects fence None = Unit {0}
AreReady refs objects fence (Some ready) = IsReady refs objects fence ready

-- what is not held has nothing but its fence and its last lease
abbrev pub IsEmptyUnless : Bool → References → Entries → Option Ready → Type 0
IsEmptyUnless true refs objects ready = Unit {0}
IsEmptyUnless false refs objects ready = (refs ≡ []) × (objects ≡ []) × (ready ≡ None)
