use Rattle.std.proofs.Common.{◌≡◌}
use Rattle.std.specs.List.{find}
use Rattle.refstore.proofs.Passing.{passes}
use Rattle.refstore.specs.RefMap.{is_set}
use Rattle.refstore.proofs.ref_map.RefMap.first_set.Given as goal

-- the first that passes is the first of what is left
abbrev pub invariant-loop-name : goal.invariant-loop-name
invariant-loop-name l =
    find (passes is_set l.bytes) l.name-iterator
    ≡ find (passes is_set l.bytes) l.initial.name-iterator
