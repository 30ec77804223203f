use Rattle.std.proofs.Common.{◌≡◌, take}
use Rattle.refstore.specs.Conflicts.{NoneBefore}
use Rattle.refstore.proofs.conflict.least_above.Given as goal

-- the bytes so far are kept, and no name that ends before a slash among them is there
abbrev pub invariant-loop-byte : goal.invariant-loop-byte
invariant-loop-byte l = record {
  front : l.front ≡ take l.byte-index l.name;
  none : NoneBefore l.map l.name l.byte-index;
}
