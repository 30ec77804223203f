-- The parents so far stand before those of what is left.
use Rattle.std.proofs.Common.{◌≡◌, ◌++◌, length}
use Rattle.object_format.specs.Reading.{parents_of}
use Rattle.object_format.proofs.kinds.push_parents.Given as goal

abbrev pub invariant-loop-parent : goal.invariant-loop-parent
invariant-loop-parent l = l.ids ++ parents_of l.rest ≡ l.fn.ids ++ parents_of l.fn.bytes

abbrev pub decreases-loop-parent : goal.decreases-loop-parent
decreases-loop-parent l = length l.rest
