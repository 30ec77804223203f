use Rattle.std.proofs.Common.{◌≡◌, drop}
use Rattle.voters.specs.Tallies.{tally_of}
use Rattle.voters.proofs.tally.weight_for.Given as goal

-- no tally so far is for the hash
abbrev pub invariant-loop-tally : goal.invariant-loop-tally
invariant-loop-tally l = tally_of l.hash (drop l.tally-index l.tallies) ≡ tally_of l.hash l.tallies
