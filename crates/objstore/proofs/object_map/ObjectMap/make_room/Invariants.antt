use Rattle.std.proofs.Common.{◌≡◌, take}
use Rattle.objstore.specs.Bundle.{without}
use Rattle.objstore.specs.ObjectMap.{HasRoom}
use Rattle.objstore.proofs.object_map.ObjectMap.make_room.Given as goal

-- the ids so far have room, and without those that had nothing the map is what it was
abbrev pub invariant-loop-id : goal.invariant-loop-id
invariant-loop-id l = record {
  room : HasRoom l.fn.self l.self (take l.id-index l.ids);
  back : without l.self l.made ≡ l.fn.self;
}
