-- The links so far stand before those of what is left.
use Rattle.std.proofs.Common.{◌≡◌, ◌++◌, length, Ok}
use Rattle.object_format.specs.Reading.{and_then}
use Rattle.object_format.specs.TreeReading.{tree_of}
use Rattle.object_format.proofs.tree.links.Given as goal

abbrev pub invariant-loop-rest : goal.invariant-loop-rest
invariant-loop-rest l = and_then (tree_of l.rest) (λ ids. Ok (l.ids ++ ids)) ≡ tree_of l.content

abbrev pub decreases-loop-rest : goal.decreases-loop-rest
decreases-loop-rest l = length l.rest
