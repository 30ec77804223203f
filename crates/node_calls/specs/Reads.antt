-- What the calls on a node that only read answer.
use Rattle.std.specs.Prelude.{◌≡◌, Option}
use Rattle.px_base.specs.Object.{GitObject}
use Rattle.px_base.specs.RefList.{References, ids_named_by}
use Rattle.px_base.specs.declared.hash.Hash.{Hash}
use Rattle.objstore.specs.Entries.{object_at}
use Rattle.objstore.specs.Reached.{AreReached}
use Rattle.node_calls.specs.ReplicaState.{ReplicaState}
use Rattle.node_calls.specs.declared.snapshot.Snapshot.{Snapshot}

-- the references
abbrev pub HasRefs : ReplicaState → References → Type 0
HasRefs place refs = refs ≡ place.refs

-- the object of that id, if there is one
abbrev pub HasObject : Hash → ReplicaState → Option GitObject → Type 0
HasObject id place object = object ≡ object_at place.objects id

-- the references, and the objects that the walk from them takes
pub record IsSnapshot (place : ReplicaState) (snapshot : Snapshot) : Type 0 where
  pub refs : snapshot.refs ≡ place.refs
  pub objects : AreReached (object_at place.objects) (ids_named_by place.refs) snapshot.objects
