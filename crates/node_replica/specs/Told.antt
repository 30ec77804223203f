-- What a repository may have beside what rows before told of it.
use Rattle.std.specs.Prelude.{◌≡◌, ℕ, true, List, [], ◌∷◌, None}
use Rattle.px_base.specs.Object.{GitObject}
use Rattle.px_base.specs.declared.hash.Hash.{Hash}
use Rattle.object_format.specs.Links.{bad_byte}
use Rattle.objstore.specs.Entries.{Entries, IsNamed, object_at, own_name}
use Rattle.refstore.specs.Updates.{Fits, creation}
use Rattle.node_calls.specs.ReplicaState.{ReplicaState}

-- it is held, and this reference may be created there
pub record MayHaveRef (place : ReplicaState) (name : List ℕ) (id : Hash) : Type 0 where
  pub held : place.held ≡ true
  pub fits : Fits (creation name id ∷ []) place.refs

-- it is held, and has no object under the id, which is the name of this one
pub record MayHaveObject (place : ReplicaState) (id : Hash) (object : GitObject) : Type 0 where
  pub held : place.held ≡ true
  pub absent : object_at place.objects id ≡ None
  pub named : IsNamed id object

-- an object has the form of its kind, and none stands under its name
pub record IsNew (store : Entries) (object : GitObject) : Type 0 where
  pub absent : object_at store (own_name object) ≡ None
  pub form : bad_byte object.kind object.content ≡ None
