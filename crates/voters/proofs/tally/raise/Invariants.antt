use Rattle.std.proofs.Common.{◌≡◌, map, take, drop, ◌++◌}
use Rattle.voters.specs.Tallies.{raised}
use Rattle.voters.proofs.tally.raise.Given as goal

-- the tallies so far are raised, and the others as they were
abbrev pub invariant-loop-tally : goal.invariant-loop-tally
invariant-loop-tally l = l.tallies ≡ map (raised l.hash l.by) (take l.tally-index l.initial.tallies) ++ drop l.tally-index l.initial.tallies
