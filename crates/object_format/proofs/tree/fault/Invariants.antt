-- What is left breaks the form where the content does.
use Rattle.std.proofs.Common.{◌≡◌, length}
use Rattle.std.specs.Result.{result_err}
use Rattle.object_format.specs.TreeReading.{tree_of}
use Rattle.object_format.proofs.tree.fault.Given as goal

abbrev pub invariant-loop-rest : goal.invariant-loop-rest
invariant-loop-rest l = result_err (tree_of l.rest) ≡ result_err (tree_of l.content)

abbrev pub decreases-loop-rest : goal.decreases-loop-rest
decreases-loop-rest l = length l.rest
