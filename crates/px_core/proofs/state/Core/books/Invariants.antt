use Rattle.std.proofs.Common.{◌≡◌, map, take}
use Rattle.px_cluster.specs.Reads.{row_of}
use Rattle.px_core.proofs.state.Core.books.Given as goal

-- the rows so far
abbrev pub invariant-loop-replica : goal.invariant-loop-replica
invariant-loop-replica l = l.rows ≡ map (row_of l.self) (take l.replica-index l.replica-items)
