-- Who is told to commit, and what: the hash of the decision.
use Rattle.std.proofs.Common.{◌≡◌, ℕ, List, Bool, true, false, Option, None, Some, refl, sym, ◌∙◌, ap, inl, inr, slice_get}
use Rattle.std.specs.Option.{option_map}
use Rattle.px_base.specs.Hash.{same_hash, same_hash-Decides}
use Rattle.px_base.specs.declared.hash.Hash.{Hash}
use Rattle.txmanager.specs.Voting.{collect_in, counted}
use Rattle.voters.specs.Results.{committed_in, is_committed_at, result_at, result_by, result_of, standing_of}
use Rattle.voters.specs.Verdict.{Standing}
use Rattle.voters.specs.Votes.{Votes}
use Rattle.voters.specs.declared.mark.Mark.{Mark}
use Rattle.voters.specs.declared.outcome.Outcome.{Outcome}
use Rattle.voters.specs.declared.outcome.Outcome.TheVariants as outcome
use Rattle.voters.specs.declared.voter_result.VoterResult.{VoterResult}
use Rattle.voters.specs.declared.voter_result.VoterResult.TheVariants as result
use Rattle.px_cluster.specs.Issues.{told_hash}
use Rattle.cluster_form.proofs.Lists.{bool, some_is}

-- who has a committed result has the hash of the outcome
hash_by : (canceled : Bool) (found : Outcome) (vote : Option Hash) (standing : Hash → Standing)
    (told : Standing) → ((hash : Hash) → (standing hash).hash ≡ hash)
    → result_by canceled found vote standing ≡ result.Committed told
    → found ≡ outcome.Commit told.hash
hash_by true found vote standing told own is =
    absurd (let z : result.Canceled ≡ result.Committed told = is in cc)
hash_by false outcome.Stop vote standing told own is =
    absurd (let z : result.Stopped ≡ result.Committed told = is in cc)
hash_by false outcome.Open vote standing told own is =
    absurd (let z : result.Open ≡ result.Committed told = is in cc)
hash_by false outcome.Fail None standing told own is =
    absurd (let z : result.Open ≡ result.Committed told = is in cc)
hash_by false outcome.Fail (Some hash) standing told own is =
    absurd (let z : result.Failed ≡ result.Committed told = is in cc)
hash_by false (outcome.Commit hash) None standing told own is =
    absurd (let z : result.Open ≡ result.Committed told = is in cc)
hash_by false (outcome.Commit hash) (Some cast) standing told own is =
    elim (bool (same_hash hash cast)) [
      | inl holds ↦ (let z : result.Committed (standing cast) ≡ result.Committed told =
          rw holds at is in
          let same : standing cast ≡ told = cc in
          ap outcome.Commit ((same_hash-Decides hash cast).0 holds ∙ sym (own cast)
          ∙ ap (λ (s : Standing). s.hash) same))
      | inr fails ↦ absurd (let z : result.Failed ≡ result.Committed told = rw fails at is in cc)
    ]

-- .. where there is such a voter
hash_at : (votes : Votes) (mark : Option Mark) (told : Standing)
    → option_map (result_of votes) mark ≡ Some (result.Committed told)
    → votes.outcome ≡ outcome.Commit told.hash
hash_at votes None told is = absurd (let z : None ≡ Some (result.Committed told) = is in cc)
hash_at votes (Some mark) told is =
    hash_by mark.canceled votes.outcome mark.vote (standing_of votes) told (λ hash. refl)
    (some_is (result_of votes mark) (result.Committed told) is)

-- the voter's result is committed in the subtransaction, whose outcome is that hash
pub record IsTold (votes : Votes) (voter : ℕ) (hash : Hash) : Type 0 where
  pub committed : committed_in voter votes ≡ true
  pub decided : votes.outcome ≡ outcome.Commit hash

-- who is told a hash has that result
by_result : (name : List ℕ) (votes : Votes) (voter : ℕ) (hash : Hash) (found : Option VoterResult)
    → result_at votes voter ≡ found → told_hash (counted name found) ≡ Some hash
    → IsTold votes voter hash
by_result name votes voter hash (Some (result.Committed told)) there is = record {
  committed = ap is_committed_at there;
  decided = hash_at votes (slice_get votes.marks voter) told there
      ∙ ap outcome.Commit (some_is told.hash hash is);
}
by_result name votes voter hash None there is = absurd (let z : None ≡ Some hash = is in cc)
by_result name votes voter hash (Some result.Open) there is =
    absurd (let z : None ≡ Some hash = is in cc)
by_result name votes voter hash (Some result.Failed) there is =
    absurd (let z : None ≡ Some hash = is in cc)
by_result name votes voter hash (Some result.Canceled) there is =
    absurd (let z : None ≡ Some hash = is in cc)
by_result name votes voter hash (Some result.Stopped) there is =
    absurd (let z : None ≡ Some hash = is in cc)

-- .. in a subtransaction that there is
pub told_in : (name : List ℕ) (number voter : ℕ) (hash : Hash) (there : Option Votes)
    → told_hash (collect_in name number voter there) ≡ Some hash
    → (votes : Votes) × (there ≡ Some votes) × IsTold votes voter hash
told_in name number voter hash None is = absurd (let z : None ≡ Some hash = is in cc)
told_in name number voter hash (Some votes) is =
    (votes, refl, by_result name votes voter hash (result_at votes voter) refl is)
