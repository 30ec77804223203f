use Rattle.std.proofs.Common.{◌≡◌, ◌++◌, drop}
use Rattle.std.specs.List.{AllByRecursion}
use Rattle.std.specs.Map.{values_of}
use Rattle.px_base.specs.Hash.{IsHash}
use Rattle.node_replica.proofs.copies.named_by.Given as goal

-- those so far, and those of what is left, are all; each so far has 20 bytes
abbrev pub invariant-loop-id : goal.invariant-loop-id
invariant-loop-id l = record {
  all : l.ids ++ values_of (drop l.id-index l.refs) ≡ values_of l.refs;
  ids : AllByRecursion IsHash l.ids;
}
