use Rattle.std.proofs.Common.{◌≡◌, ◌++◌, drop}
use Rattle.node_rows.specs.Writes.{objects_gone}
use Rattle.node_rows.proofs.rows.remove_objects.Given as goal

-- with those of what is left, the batch has the changes of all
abbrev pub invariant-loop-id : goal.invariant-loop-id
invariant-loop-id l =
    l.batch ++ objects_gone l.repo (drop l.id-index l.ids) ≡ l.initial.batch ++ objects_gone l.repo l.ids
