-- Objects under ids, on the way to a store.
use Rattle.std.specs.Prelude.{◌≡◌, true, false, List, is_some}
use Rattle.px_base.specs.declared.hash.Hash.{Hash}
use Rattle.objstore.specs.Entries.{Entries, is_among, object_at}

-- something stands under each of the ids
abbrev pub IsRoomFor : Entries → List Hash → Type 0
IsRoomFor map ids = (id : Hash) → is_among id ids ≡ true → is_some (object_at map id) ≡ true

-- something stands under each of the ids, and under each other id what the store has
pub record HasRoom (store map : Entries) (ids : List Hash) : Type 0 where
  pub others : (id : Hash) → is_among id ids ≡ false → object_at map id ≡ object_at store id
  pub room : IsRoomFor map ids
