use Rattle.std.proofs.Common.{◌≡◌, drop}
use Rattle.refstore.specs.Stages.{removals_of}
use Rattle.refstore.specs.Updates.{after}
use Rattle.refstore.proofs.ref_map.RefMap.remove_all.Given as goal

-- with what is left done as well, all is done
abbrev pub invariant-loop-update : goal.invariant-loop-update
invariant-loop-update l =
    after l.self (removals_of (drop l.update-index l.updates))
    ≡ after l.initial.self (removals_of l.updates)
