use Rattle.std.proofs.Common.{◌≡◌, ◌≤◌, length, map, take, vec_capacity}
use Rattle.voters.specs.Marks.{fresh}
use Rattle.voters.proofs.count.fresh_marks.Given as goal

-- the voters so far have a mark, and there is room for all
abbrev pub invariant-loop-voter : goal.invariant-loop-voter
invariant-loop-voter l = record {
  marks : l.marks.items ≡ map fresh (take l.voter-index l.voters);
  room : length l.voters ≤ vec_capacity l.marks;
}
