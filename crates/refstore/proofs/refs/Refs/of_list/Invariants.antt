use Rattle.std.proofs.Common.{◌≡◌, take}
use Rattle.refstore.proofs.refs.Refs.of_list.Given as goal

-- the references so far are those of the front of the list
abbrev pub invariant-loop-name : goal.invariant-loop-name
invariant-loop-name l = l.map ≡ take l.name-index l.pairs
