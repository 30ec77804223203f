-- What a node comes to have by rows that are read one after the other.
use Rattle.std.specs.Prelude.{◌≡◌, ℕ, Bool, true, List, [], ◌∷◌, Option, None, Some}
use Rattle.px_base.specs.Hash.{IsHash}
use Rattle.px_base.specs.Object.{GitObject, IsSmall}
use Rattle.px_base.specs.RefName.{IsRefName}
use Rattle.px_base.specs.declared.hash.Hash.{Hash}
use Rattle.objstore.specs.Bundle.{with_object}
use Rattle.objstore.specs.Entries.{IsNamed, object_at}
use Rattle.refstore.specs.Updates.{Fits, after, creation}
use Rattle.px_keeper.specs.Reading.{ReadTo}
use Rattle.px_keeper.specs.Row.{Rows}
use Rattle.px_keeper.specs.declared.row_key.RowKey.{RowKey}
use Rattle.node_rows.specs.BadRow.{IsGood}
use Rattle.node_calls.specs.Lawful.{IsLawful}
use Rattle.node_calls.specs.ReplicaState.{NodeState, ReplicaState, nothing}
use Rattle.node_rows.specs.Rows.{AreRowsOf, cut, object_bytes}

-- ---- one row more

-- what a row of table 6 says of its repository
abbrev pub said : ℕ → Option ℕ → Bool → ReplicaState
said fence last held = record nothing { held = held; fence = fence; last = last }

-- a row of table 7 says that a held repository has this reference, which may be created there
pub record RefComes (node : NodeState) (key value path name : List ℕ) (id : Hash) : Type 0 where
  pub parts : cut key ≡ Some (path, name)
  pub held : (node path).held ≡ true
  pub named : IsRefName name
  pub is : value ≡ id.0
  pub hash : IsHash id
  pub fits : Fits (creation name id ∷ []) (node path).refs

abbrev pub with_ref : List ℕ → Hash → ReplicaState → ReplicaState
with_ref name id place = record place { refs = after place.refs (creation name id ∷ []) }

-- a row of table 8 says that a held repository has this object, which it did not have
pub record ObjectComes (node : NodeState) (key value path : List ℕ) (id : Hash)
    (object : GitObject) : Type 0 where
  pub parts : cut key ≡ Some (path, id.0)
  pub held : (node path).held ≡ true
  pub absent : object_at (node path).objects id ≡ None
  pub is : value ≡ object_bytes object
  pub small : IsSmall object.content
  pub named : IsNamed id object

abbrev pub with_one : GitObject → ReplicaState → ReplicaState
with_one object place = record place { objects = with_object place.objects object }

-- ---- all rows up to a place

-- what stands at rows is that of the node, which is lawful and has no push that is ready
pub record HasRows (node : NodeState) (values : RowKey → Option (List ℕ)) : Type 0 where
  pub are : AreRowsOf node values
  pub lawful : IsLawful node
  pub unready : (path : List ℕ) → (node path).ready ≡ None

-- the rows that were read are good, and they are those of the node
abbrev pub IsReadTo : Rows → ℕ → Option (List ℕ) → NodeState → Type 0
IsReadTo rows table last node = ReadTo IsGood (HasRows node) rows table last
