use Rattle.std.proofs.Common.{◌≡◌, ◌++◌, drop}
use Rattle.node_rows.specs.Writes.{gone_changes}
use Rattle.node_rows.proofs.rows.remove_each.Given as goal

-- with those of what is left, the batch has the changes of all
abbrev pub invariant-loop-name : goal.invariant-loop-name
invariant-loop-name l =
    l.batch ++ gone_changes l.repo l.new (drop l.name-index l.old) ≡ l.initial.batch ++ gone_changes l.repo l.new l.old
