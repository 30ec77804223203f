use Rattle.std.proofs.Common.{◌≡◌, ◌++◌}
use Rattle.refstore.proofs.ref_map.RefMap.copy.Given as goal

-- what was copied, and what is left, are the whole
abbrev pub invariant-loop-name : goal.invariant-loop-name
invariant-loop-name l = l.map.entries ++ l.name-iterator ≡ l.initial.name-iterator
