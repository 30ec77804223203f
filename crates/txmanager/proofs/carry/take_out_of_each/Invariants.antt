use Rattle.std.proofs.Common.{◌≡◌, ◌++◌, map, take, drop}
use Rattle.txmanager.specs.Rounds.{without}
use Rattle.txmanager.proofs.carry.take_out_of_each.Given as goal

-- the voter is canceled in each one so far
abbrev pub invariant-loop-next : goal.invariant-loop-next
invariant-loop-next l =
    l.later ≡ map (without l.voter) (take l.next-index l.initial.later) ++ drop l.next-index l.initial.later
