use Rattle.std.proofs.Common.{take}
use Rattle.px_base.specs.Update.{AreUpdates}
use Rattle.px_base.proofs.push.are_updates.Given as goal

-- each of those so far is one
abbrev pub invariant-loop-update : goal.invariant-loop-update
invariant-loop-update l = AreUpdates (take l.update-index l.updates)
