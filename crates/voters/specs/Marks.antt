-- The marks of a panel, and the weights that they sum up to.
use Rattle.std.specs.Prelude.{ℕ, ◌+◌, Bool, true, false, ◌&&◌, not, if◌then◌else◌, nat_lt, nat_le, is_none, List, sum_by, find}
use Rattle.std.specs.List.{list_all, filter_map}
use Rattle.std.specs.declared.option.Option.{Option}
use Rattle.std.specs.declared.option.Option.TheVariants.{None, Some}
use Rattle.px_base.specs.declared.hash.Hash.{Hash}
use Rattle.px_base.specs.Hash.{same_hash}
use Rattle.voters.specs.declared.mark.Mark.{Mark}
use Rattle.px_base.specs.declared.voter.Voter.{Voter}

-- what a vote of the voter weighs
abbrev pub voter_weight : Voter → ℕ
voter_weight voter = voter.weight

-- the same, by its mark
abbrev pub mark_weight : Mark → ℕ
mark_weight mark = mark.weight

-- the mark before any act
abbrev pub fresh : Voter → Mark
fresh voter = record { weight = voter.weight; vote = None; canceled = false }

-- the mark with a vote
abbrev pub voting : Mark → Hash → Mark
voting mark hash = record { weight = mark.weight; vote = Some hash; canceled = mark.canceled }

-- the mark with a cancel
abbrev pub canceling : Mark → Mark
canceling mark = record { weight = mark.weight; vote = mark.vote; canceled = true }

-- neither a cast nor a cancel
abbrev pub is_open : Mark → Bool
is_open mark = not mark.canceled && is_none mark.vote

-- the hash of the mark's vote, where the vote stands
abbrev pub standing_hash : Mark → Option Hash
standing_hash mark = if mark.canceled then None else mark.vote

-- there is a hash, and it is this one
abbrev pub is_hash : Hash → Option Hash → Bool
is_hash hash None = false
is_hash hash (Some other) = same_hash other hash

-- what the mark adds to the weight that stands for a hash
abbrev pub share : Hash → Mark → ℕ
share hash mark = if is_hash hash (standing_hash mark) then mark.weight else 0

-- what the mark adds to the open weight
abbrev pub open_share : Mark → ℕ
open_share mark = if is_open mark then mark.weight else 0

-- the weight of the standing votes for a hash
abbrev pub standing_weight : Hash → List Mark → ℕ
standing_weight hash marks = sum_by (share hash) marks

-- the weight of the voters that have neither voted nor been canceled
abbrev pub open_weight : List Mark → ℕ
open_weight marks = sum_by open_share marks

-- the weight of all voters
abbrev pub total_weight : List Mark → ℕ
total_weight marks = sum_by mark_weight marks

-- the hashes of the votes that stand
abbrev pub standing_hashes : List Mark → List Hash
standing_hashes marks = filter_map standing_hash marks

-- the first hash whose standing votes weigh at least the threshold
unfoldable pub committed_hash : ℕ → List Mark → Option Hash
committed_hash threshold marks =
    find (λ hash. nat_le threshold (standing_weight hash marks)) (standing_hashes marks)

-- even with all open voters no hash reaches the threshold
unfoldable pub is_lost : ℕ → List Mark → Bool
is_lost threshold marks =
    nat_lt (open_weight marks) threshold
    && list_all (λ hash. nat_lt (standing_weight hash marks + open_weight marks) threshold)
    (standing_hashes marks)
