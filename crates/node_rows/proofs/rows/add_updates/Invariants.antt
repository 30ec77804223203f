use Rattle.std.proofs.Common.{◌≡◌, ◌++◌, drop}
use Rattle.node_rows.specs.Writes.{update_changes}
use Rattle.node_rows.proofs.rows.add_updates.Given as goal

-- with those of what is left, the batch has the changes of all
abbrev pub invariant-loop-update : goal.invariant-loop-update
invariant-loop-update l =
    l.batch ++ update_changes l.repo (drop l.update-index l.updates) ≡ l.initial.batch ++ update_changes l.repo l.updates
