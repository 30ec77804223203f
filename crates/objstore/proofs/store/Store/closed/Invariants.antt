use Rattle.std.proofs.Common.{◌+◌, ◌-◌, length}
use Rattle.objstore.specs.Entries.{object_in}
use Rattle.objstore.specs.Walk.{IsWalk, AllFound}
use Rattle.objstore.proofs.store.Store.closed.Given as goal

-- the queue is that of the walk, and all that was taken has an object
abbrev pub invariant-loop-id : goal.invariant-loop-id
invariant-loop-id l =
    let objects = object_in l.self l.extra in
    record {
      walk : IsWalk objects l.tips l.queue;
      found : AllFound objects l.queue.taken;
    }

-- the objects that were not taken yet
abbrev pub decreases-loop-id : goal.decreases-loop-id
decreases-loop-id l = length l.self + length l.extra - length l.queue.taken
