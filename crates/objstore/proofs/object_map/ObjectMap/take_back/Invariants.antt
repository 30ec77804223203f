use Rattle.std.proofs.Common.{◌≡◌, drop}
use Rattle.objstore.specs.Bundle.{without}
use Rattle.objstore.proofs.object_map.ObjectMap.take_back.Given as goal

-- without those that are left it is the map without all
abbrev pub invariant-loop-id : goal.invariant-loop-id
invariant-loop-id l = without l.self (drop l.id-index l.ids) ≡ without l.fn.self l.ids
