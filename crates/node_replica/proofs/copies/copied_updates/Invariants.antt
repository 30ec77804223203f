use Rattle.std.proofs.Common.{◌≡◌, take}
use Rattle.node_replica.proofs.copies.copied_updates.Given as goal

-- those so far
abbrev pub invariant-loop-update : goal.invariant-loop-update
invariant-loop-update l = l.copied ≡ take l.update-index l.updates
