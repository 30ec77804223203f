-- How a queue lies in memory: all that ever stood in it in one list, and how many were taken.
use Rattle.std.specs.Prelude.{◌≡◌, ◌≤◌, length, take, drop}
use Rattle.std.specs.BTreeSet as set
use Rattle.px_base.specs.Hash.{hash_cmp}
use Rattle.px_base.specs.declared.hash.Hash.{Hash}
use Rattle.objstore.specs.Entries.{is_among}
use Rattle.objstore.specs.Walk.{Walk}
use Rattle.objstore.specs.declared.queue.Queue.TheInside.{Inside}

-- the walk that a queue stands for
abbrev pub walk_of : Inside → Walk
walk_of a = record { taken = take a.taken a.ids.items; waiting = drop a.taken a.ids.items }

-- no more were taken than stood there, and the set has all that stood there
pub record IsQueue (a : Inside) : Type 0 where
  pub within : a.taken ≤ length a.ids.items
  pub seen : (id : Hash) → set.contains hash_cmp a.seen id ≡ is_among id a.ids.items
