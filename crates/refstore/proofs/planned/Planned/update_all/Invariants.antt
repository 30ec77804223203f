use Rattle.std.proofs.Common.{◌≡◌, ◌≤◌, ◌+◌, drop, length}
use Rattle.refstore.specs.Updates.{after}
use Rattle.refstore.proofs.planned.Planned.update_all.Given as goal

-- with what is left done as well, all is done; and an update adds one reference at most
abbrev pub invariant-loop-update : goal.invariant-loop-update
invariant-loop-update l = record {
  done : after l.self (drop l.update-index l.updates) ≡ after l.initial.self l.updates;
  few : length l.self ≤ 32768 + l.update-index;
}
