use Rattle.std.proofs.Common.{◌≡◌, ◌++◌, [], drop, map}
use Rattle.objstore.specs.Bundle.{bundle_fault, with_objects}
use Rattle.objstore.specs.Entries.{own_name}
use Rattle.objstore.proofs.quarantine.Quarantine.of.Given as goal

-- with what is left all come and are named, and the first fault is the first of what is left
abbrev pub invariant-loop-index : goal.invariant-loop-index
invariant-loop-index l =
    let rest = drop l.index l.objects in
    record {
      made : with_objects l.extra rest ≡ with_objects [] l.objects;
      names : l.ids ++ map own_name rest ≡ map own_name l.objects;
      fault : bundle_fault (l.store ++ l.extra) l.index rest ≡ bundle_fault l.store 0 l.objects;
    }
