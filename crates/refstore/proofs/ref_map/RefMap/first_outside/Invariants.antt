use Rattle.std.proofs.Common.{◌≡◌}
use Rattle.std.specs.List.{find}
use Rattle.refstore.proofs.Passing.{passes}
use Rattle.refstore.specs.RefMap.{is_outside}
use Rattle.refstore.proofs.ref_map.RefMap.first_outside.Given as goal

-- the first that passes is the first of what is left
abbrev pub invariant-loop-name : goal.invariant-loop-name
invariant-loop-name l =
    find (passes (is_outside l.others) l.bytes) l.name-iterator
    ≡ find (passes (is_outside l.others) l.bytes) l.initial.name-iterator
