use Rattle.std.proofs.Common.{◌≡◌, ◌++◌, drop}
use Rattle.node_rows.specs.Writes.{put_changes}
use Rattle.node_rows.proofs.rows.put_each.Given as goal

-- with those of what is left, the batch has the changes of all
abbrev pub invariant-loop-name : goal.invariant-loop-name
invariant-loop-name l =
    l.batch ++ put_changes l.repo l.old (drop l.name-index l.new) ≡ l.initial.batch ++ put_changes l.repo l.old l.new
