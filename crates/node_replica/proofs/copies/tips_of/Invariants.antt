use Rattle.std.proofs.Common.{◌≡◌, ◌++◌, drop}
use Rattle.node_calls.specs.Calls.{new_tips}
use Rattle.node_replica.proofs.copies.tips_of.Given as goal

-- those so far, and those of what is left, are all
abbrev pub invariant-loop-update : goal.invariant-loop-update
invariant-loop-update l = l.tips ++ new_tips (drop l.update-index l.updates) ≡ new_tips l.updates
