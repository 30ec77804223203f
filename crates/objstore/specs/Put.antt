-- What putting an object into a store comes to.
use Rattle.std.specs.Prelude.{◌≡◌, ◌≢◌, ◌+◌, length, None, Some}
use Rattle.px_base.specs.Object.{GitObject}
use Rattle.px_base.specs.declared.hash.Hash.{Hash}
use Rattle.object_format.specs.Links.{bad_byte}
use Rattle.objstore.specs.Entries.{Entries, object_at, own_name}
use Rattle.objstore.specs.declared.store.Put.{Put}
use Rattle.objstore.specs.declared.store.Put.TheVariants.{Added, Present}
use Rattle.objstore.specs.declared.store.PutFault.{PutFault}
use Rattle.objstore.specs.declared.store.PutFault.TheVariants.{BadObject, Collision, Memory}

-- the store has the object under an id where it had none, and all else as before
pub record AddsObject (old new : Entries) (id : Hash) (object : GitObject) : Type 0 where
  pub absent : object_at old id ≡ None
  pub has : object_at new id ≡ Some object
  pub others : (q : Hash) → q ≢ id → object_at new q ≡ object_at old q
  pub one_more : length new ≡ length old + 1

-- the store has this very object under its name, and stays
pub record HasObject (old new : Entries) (object : GitObject) : Type 0 where
  pub has : object_at old (own_name object) ≡ Some object
  pub same : new ≡ old

-- what a put that was done did
abbrev pub Puts : Entries → Entries → GitObject → Put → Type 0
Puts old new object Added = AddsObject old new (own_name object) object
Puts old new object Present = HasObject old new object

-- an object that stands under the name has another kind or other bytes
pub record Collides (store : Entries) (object : GitObject) : Type 0 where
  pub other : GitObject
  pub stands : object_at store (own_name object) ≡ Some other
  pub differs : other ≢ object

-- why a put is not done: the object has a bad byte; or it has none and another one has its name
abbrev pub IsRefused : Entries → GitObject → PutFault → Type 0
IsRefused store object (BadObject at) = bad_byte object.kind object.content ≡ Some at
IsRefused store object (Collision id) =
    (bad_byte object.kind object.content ≡ None) × Collides store object × (id ≡ own_name object)
IsRefused store object Memory = Unit {0}
