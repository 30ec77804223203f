-- What a subtransaction keeps.
use Rattle.std.specs.Prelude.{◌≡◌, ◌*◌, ◌<◌, ◌≤◌, false, None, length}
use Rattle.px_base.specs.declared.hash.Hash.{Hash}
use Rattle.voters.specs.declared.outcome.Outcome.TheVariants.{Open, Commit}
use Rattle.voters.specs.declared.sub.Sub.TheInside.{Inside}
use Rattle.voters.specs.Marks.{committed_hash, is_lost, standing_weight, total_weight}
use Rattle.voters.specs.Votes.{Votes}

-- what is seen of a subtransaction
abbrev pub votes_in : Inside → Votes
votes_in a = record { threshold = a.threshold; marks = a.count; outcome = a.outcome }

-- what is true of the votes after any calls
pub record IsSound (votes : Votes) : Type 0 where
  pub most : total_weight votes.marks < 2 * votes.threshold
  pub none : votes.outcome ≡ Open → committed_hash votes.threshold votes.marks ≡ None
  pub not_lost : votes.outcome ≡ Open → is_lost votes.threshold votes.marks ≡ false
  pub leads : (hash : Hash) → votes.outcome ≡ Commit hash
      → votes.threshold ≤ standing_weight hash votes.marks

-- what is true of the fields
pub record IsSub (a : Inside) : Type 0 where
  pub sound : IsSound (votes_in a)
  pub total : a.total ≡ total_weight a.count
  pub few : length a.count ≤ 64
