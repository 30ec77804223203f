use Rattle.std.proofs.Common.{◌≡◌, ◌++◌, drop}
use Rattle.node_rows.specs.Writes.{coming_changes}
use Rattle.node_rows.proofs.rows.add_objects.Given as goal

-- with those of what is left, the batch has the changes of all
abbrev pub invariant-loop-at : goal.invariant-loop-at
invariant-loop-at l =
    l.batch ++ coming_changes l.repo l.store (drop l.at l.objects) ≡ l.initial.batch ++ coming_changes l.repo l.store l.objects
