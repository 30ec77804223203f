use Rattle.objstore.proofs.Moved.{IsMoving}
use Rattle.objstore.proofs.object_map.ObjectMap.fill.Given as goal

-- what is left is still to be moved
abbrev pub invariant-loop-id : goal.invariant-loop-id
invariant-loop-id l = IsMoving l.initial.id-iterator l.fn.self l.id-iterator l.self
