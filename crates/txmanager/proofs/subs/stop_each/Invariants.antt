use Rattle.std.proofs.Common.{◌≡◌, ◌++◌, map, take, drop}
use Rattle.txmanager.specs.Rounds.{stopped}
use Rattle.txmanager.proofs.subs.stop_each.Given as goal

-- each open one so far is stopped
abbrev pub invariant-loop-sub : goal.invariant-loop-sub
invariant-loop-sub l = l.subs ≡ map stopped (take l.sub-index l.initial.subs) ++ drop l.sub-index l.initial.subs
