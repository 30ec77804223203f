-- The objects of a store, by their ids.
use Rattle.std.specs.Prelude.{◌≡◌, Bool, List, Option, None, Some}
use Rattle.std.specs.List.{list_any}
use Rattle.std.specs.List.Sorted.{IsStrictlySortedBy}
use Rattle.std.specs.Map.{keys_of, lookup}
use Rattle.std.specs.Option.{option_or}
use Rattle.std.specs.Ordering.{eq_by_cmp}
use Rattle.px_base.specs.Hash.{hash_cmp}
use Rattle.px_base.specs.Object.{GitObject, IsSmall}
use Rattle.px_base.specs.declared.hash.Hash.{Hash}
use Rattle.object_format.specs.Links.{bad_byte}
use Rattle.object_format.specs.Name.{object_name}

-- what is seen of a store: its objects with their ids, in the order of the ids
abbrev pub Entries : Type 0
Entries = List (Hash × GitObject)

-- the two are one id
abbrev pub is_id : Hash → Hash → Bool
is_id = eq_by_cmp hash_cmp

-- the id stands in the list
abbrev pub is_among : Hash → List Hash → Bool
is_among id ids = list_any (is_id id) ids

-- the object that a store has under an id
abbrev pub object_at : Entries → Hash → Option GitObject
object_at store id = lookup (is_id id) store

-- the object that the first store has under an id, or else the second
abbrev pub object_in : Entries → Entries → Hash → Option GitObject
object_in store extra id = option_or (object_at store id) (object_at extra id)

-- the name that an object has by its kind and content
abbrev pub own_name : GitObject → Hash
own_name object = object_name object.kind object.content

-- the id is the name of the object, and the object has the form of its kind
pub record IsNamed (id : Hash) (object : GitObject) : Type 0 where
  pub name : own_name object ≡ id
  pub form : bad_byte object.kind object.content ≡ None

-- the ids ascend, so that each stands there once, and each object stands under its own name
pub record IsStore (store : Entries) : Type 0 where
  pub ordered : IsStrictlySortedBy hash_cmp (keys_of store)
  pub named : (id : Hash) (object : GitObject) → object_at store id ≡ Some object
      → IsNamed id object

-- no object of the store has more content than an object may have
abbrev pub AreSmall : Entries → Type 0
AreSmall store =
    (id : Hash) (object : GitObject) → object_at store id ≡ Some object → IsSmall object.content
