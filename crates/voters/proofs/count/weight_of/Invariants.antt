use Rattle.std.proofs.Common.{◌≡◌, take, sum_by}
use Rattle.voters.specs.Marks.{voter_weight}
use Rattle.voters.proofs.count.weight_of.Given as goal

-- the weight so far is that of the voters so far
abbrev pub invariant-loop-voter : goal.invariant-loop-voter
invariant-loop-voter l = l.weight ≡ sum_by voter_weight (take l.voter-index l.voters)
