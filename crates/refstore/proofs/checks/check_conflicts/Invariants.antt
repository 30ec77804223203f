use Rattle.std.proofs.Common.{◌≡◌, drop}
use Rattle.refstore.specs.Updates.{first_conflict}
use Rattle.refstore.proofs.checks.check_conflicts.Given as goal

-- the first conflict is the first of what is left
abbrev pub invariant-loop-update : goal.invariant-loop-update
invariant-loop-update l =
    first_conflict l.map l.updates ≡ first_conflict l.map (drop l.update-index l.updates)
