-- Replicas as rows tell them, and how one row more is taken over.
use Rattle.std.specs.Prelude.{◌≡◌, ℕ, List, None}
use Rattle.px_base.specs.Object.{GitObject}
use Rattle.px_base.specs.declared.hash.Hash.{Hash}
use Rattle.node_rows.specs.BadRow.{IsReplicaRow}
use Rattle.node_calls.specs.ReplicaState.{Changes, NodeState}
use Rattle.node_rows.specs.Reading.{ObjectComes, RefComes, said, with_one, with_ref}
use Rattle.px_node.specs.Shelf.{AreLawful, Replicas, place_at}

-- replicas as rows tell them: lawful, and without a push that is ready
pub record AreTold (replicas : Replicas) : Type 0 where
  pub lawful : AreLawful replicas
  pub unready : (path : List ℕ) → (place_at replicas path).ready ≡ None

-- ---- one row more

-- a row of table 6 was taken over
pub record TakesReplica (old new : NodeState) (key value : List ℕ) : Type 0 where
  pub row : IsReplicaRow key value
  pub changes : Changes old new key (said row.fence row.last row.held)

-- a row of table 7 was
pub record TakesRef (old new : NodeState) (key value : List ℕ) : Type 0 where
  pub path : List ℕ
  pub name : List ℕ
  pub id : Hash
  pub comes : RefComes old key value path name id
  pub changes : Changes old new path (with_ref name id (old path))

-- a row of table 8 was
pub record TakesObject (old new : NodeState) (key value : List ℕ) : Type 0 where
  pub path : List ℕ
  pub id : Hash
  pub object : GitObject
  pub comes : ObjectComes old key value path id object
  pub changes : Changes old new path (with_one object (old path))
