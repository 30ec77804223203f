use Rattle.std.proofs.Common.{◌≡◌, ◌++◌}
use Rattle.refstore.proofs.ref_map.RefMap.list.Given as goal

-- what is in the list, and what is left, are the whole
abbrev pub invariant-loop-name : goal.invariant-loop-name
invariant-loop-name l = l.list ++ l.name-iterator ≡ l.initial.name-iterator
