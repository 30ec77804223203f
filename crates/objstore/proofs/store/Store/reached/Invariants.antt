use Rattle.std.proofs.Common.{◌≡◌, ◌+◌, ◌-◌, length}
use Rattle.std.specs.List.{filter_map}
use Rattle.objstore.specs.Entries.{object_at}
use Rattle.objstore.specs.Walk.{IsWalk}
use Rattle.objstore.proofs.BoundLemmas.{all_links}
use Rattle.objstore.proofs.store.Store.reached.Given as goal

-- the queue is that of the walk, and the objects of what was taken were found
abbrev pub invariant-loop-id : goal.invariant-loop-id
invariant-loop-id l = record {
  walk : IsWalk (object_at l.self) l.tips l.queue;
  are : l.found ≡ filter_map (object_at l.self) l.queue.taken;
}

-- the tips and links that were not taken yet
abbrev pub decreases-loop-id : goal.decreases-loop-id
decreases-loop-id l = length l.tips + length (all_links l.self) - length l.queue.taken
