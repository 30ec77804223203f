use Rattle.std.proofs.Common.{◌≡◌, drop}
use Rattle.refstore.specs.RefMap.{IsRefMap}
use Rattle.refstore.specs.Stages.{IsOnTheWay, sets_of}
use Rattle.refstore.specs.Updates.{after}
use Rattle.refstore.proofs.ref_map.RefMap.set_all.Given as goal

-- with what is left done as well, all is done; and it is on the way
abbrev pub invariant-loop-update : goal.invariant-loop-update
invariant-loop-update l = record {
  done : after l.self (sets_of (drop l.update-index l.updates))
      ≡ after l.initial.self (sets_of l.updates);
  way : IsOnTheWay l.initial.self l.self l.updates;
  map : IsRefMap l.initial.self;
}
