use Rattle.std.proofs.Common.{◌≡◌, map, take}
use Rattle.txmanager.specs.Rounds.{out_from, without_all}
use Rattle.txmanager.proofs.carry.carry_into_each.Given as goal

-- the voters so far that are out are canceled in each later one
abbrev pub invariant-loop-voter : goal.invariant-loop-voter
invariant-loop-voter l =
    l.later ≡ map (without_all (out_from l.earlier 0 (take l.voter l.earlier.marks))) l.initial.later
