use Rattle.std.proofs.Common.{◌≡◌, ◌++◌}
use Rattle.std.specs.Map.{keys_of}
use Rattle.objstore.proofs.store.Store.ids.Given as goal

-- the ids that were listed, and those that are left, are all
abbrev pub invariant-loop-id : goal.invariant-loop-id
invariant-loop-id l = l.ids ++ keys_of l.id-iterator ≡ keys_of l.initial.id-iterator
