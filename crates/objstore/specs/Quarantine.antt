-- Objects that are kept apart until they may come to a store.
use Rattle.std.specs.Prelude.{◌≡◌, ℕ, List, [], map, slice_get, Some}
use Rattle.std.specs.List.{filter_map}
use Rattle.px_base.specs.Object.{GitObject}
use Rattle.px_base.specs.declared.hash.Hash.{Hash}
use Rattle.objstore.specs.Bundle.{with_objects}
use Rattle.objstore.specs.Entries.{Entries, object_at, own_name}

-- the objects of the ids, in their order
abbrev pub objects_of : List Hash → Entries → List GitObject
objects_of ids store = filter_map (object_at store) ids

-- the ids are the names of the objects, which the store has under them, and no others
pub record AreKept (ids : List Hash) (store : Entries) (objects : List GitObject) : Type 0 where
  pub names : ids ≡ map own_name objects
  pub only : store ≡ with_objects [] objects
  pub found : (at : ℕ) (object : GitObject) → slice_get objects at ≡ Some object
      → object_at store (own_name object) ≡ Some object
