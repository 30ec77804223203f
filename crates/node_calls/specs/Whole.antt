-- What holds of each repository of a node, from the first on and over all that happens.
use Rattle.std.specs.Prelude.{◌≡◌, ℕ, true, List, IfSome, None}
use Rattle.px_base.specs.RefList.{IsRefList, ids_named_by}
use Rattle.objstore.specs.Bundle.{bundle_fault, with_objects}
use Rattle.objstore.specs.Entries.{IsStore, object_at}
use Rattle.objstore.specs.Reach.{IsClosed}
use Rattle.px_base.specs.Update.{AreUpdates}
use Rattle.refstore.specs.Updates.{Fits, after}
use Rattle.node_calls.specs.ReplicaState.{NodeState, ReplicaState, ReadyPush}

-- what holds of a push that is ready: its repository is held, and its lease is the fence; its
-- updates may be done and its objects may come; and then all that the references lead to is there
pub record IsWholePush (place : ReplicaState) (push : ReadyPush) : Type 0 where
  pub held : place.held ≡ true
  pub fenced : push.lease ≡ place.fence
  pub updates : AreUpdates push.updates
  pub fits : Fits push.updates place.refs
  pub comes : bundle_fault place.objects 0 push.objects ≡ None
  pub closed : IsClosed (object_at (with_objects place.objects push.objects))
      (ids_named_by (after place.refs push.updates))

-- what holds of a repository: each object stands once, and under its own name; the references are
-- what a repository may have; all that they lead to is there; and what holds of the push that is ready
pub record IsWholeReplica (place : ReplicaState) : Type 0 where
  pub store : IsStore place.objects
  pub refs : IsRefList place.refs
  pub closed : IsClosed (object_at place.objects) (ids_named_by place.refs)
  pub ready : IfSome place.ready (λ push. IsWholePush place push)

-- it holds of each repository
abbrev pub IsWhole : NodeState → Type 0
IsWhole node = (path : List ℕ) → IsWholeReplica (node path)
