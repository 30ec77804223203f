use Rattle.std.proofs.Common.{◌≡◌, ◌++◌, map, take, drop}
use Rattle.voters.specs.Calls.{all_canceled}
use Rattle.txmanager.proofs.subs.cancel_each.Given as goal

-- who was undecided in each one so far is canceled there
abbrev pub invariant-loop-sub : goal.invariant-loop-sub
invariant-loop-sub l = l.subs ≡ map all_canceled (take l.sub-index l.initial.subs) ++ drop l.sub-index l.initial.subs
