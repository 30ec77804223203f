use Rattle.std.proofs.Common.{◌≡◌, [], drop, take}
use Rattle.refstore.specs.Named.{Named}
use Rattle.refstore.specs.Updates.{first_fault, names_of}
use Rattle.refstore.proofs.checks.check_each.Given as goal

-- the names so far were met, and the first fault is the first of what is left
abbrev pub invariant-loop-update : goal.invariant-loop-update
invariant-loop-update l = record {
  names : Named l.names (names_of (take l.update-index l.updates));
  fault : first_fault l.refs [] l.updates
      ≡ first_fault l.refs (names_of (take l.update-index l.updates)) (drop l.update-index l.updates);
}
