-- What a count keeps: its sums are those of its marks.
use Rattle.std.specs.Prelude.{◌≡◌, ◌+◌, ◌<◌, ◌≤◌, ◌^◌, true, List, count_by, is_none, length, vec_capacity}
use Rattle.std.specs.List.{AllByRecursion, list_any}
use Rattle.px_base.specs.declared.hash.Hash.{Hash}
use Rattle.voters.specs.Marks.{standing_weight, open_weight, total_weight}
use Rattle.voters.specs.Tallies.{is_for}
use Rattle.voters.specs.declared.mark.Mark.{Mark}
use Rattle.voters.specs.declared.tally.Tally.{Tally}
use Rattle.voters.specs.declared.count.Count.TheInside.{Inside}

-- each tally has the weight that stands for its hash, and each hash with weight has a tally
pub record AreTallies (marks : List Mark) (tallies : List Tally) : Type 0 where
  pub right : AllByRecursion (λ tally. tally.weight ≡ standing_weight tally.hash marks) tallies
  pub covers : (hash : Hash) → 0 < standing_weight hash marks
      → list_any (is_for hash) tallies ≡ true

-- the sums are those of the marks, and each voter without a vote has room for a tally
pub record IsCounted (a : Inside) : Type 0 where
  pub fits : total_weight a.marks.items < 2 ^ 64
  pub pending : a.pending ≡ open_weight a.marks.items
  pub tallies : AreTallies a.marks.items a.tallies.items
  pub room : length a.tallies.items + count_by (λ mark. is_none mark.vote) a.marks.items
      ≤ vec_capacity a.tallies
