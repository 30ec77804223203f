use Rattle.std.proofs.Common.{◌≡◌, arith, ap, ◌∙◌, sym, List, map, length}
use Rattle.voters.specs.Marks.{fresh}
use Rattle.voters.specs.declared.tally.Tally.{Tally}
use Rattle.voters.proofs.CountLemmas.{starts_right}
use Rattle.voters.proofs.count.Count.new.Goals as goal

pub invariant_of-result : goal.invariant_of-result
invariant_of-result c =
    let voters = c.args.voters.now in
    let marks : c.in_ok-marks.marks.items ≡ map fresh voters = c.in_ok-marks.ensures in
    let s = starts_right voters in
    record {
      fits = rw marks (omega (arith, s.total, c.requires));
      pending = rw marks (c.weight_of-pending.ensures ∙ sym s.pending);
      tallies = rw (marks, c.in_ok-tallies.ensures.items) s.tallies;
      room = rw marks (omega (arith, s.votes, ap (λ (xs : List Tally). length xs) c.in_ok-tallies.ensures.items, c.in_ok-tallies.ensures.exact));
    }
