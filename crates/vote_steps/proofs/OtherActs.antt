-- The acts on a push that are no cast: they tell nobody to commit and take it back from nobody,
-- decide for no hash, and leave who voted.
use Rattle.std.proofs.Common.{◌≡◌, ◌+◌, ℕ, suc, List, [], ◌∷◌, Bool, true, false, Option, None, Some, if◌then◌else◌, refl, sym, ◌∙◌, ap, inl, inr, arith, map, slice_get}
use Rattle.px_base.specs.declared.hash.Hash.{Hash}
use Rattle.txmanager.specs.Chain.{IsChain}
use Rattle.txmanager.specs.Rounds.{TxAct, Cancel, Cast, CancelVoter, Stop, after_act, out_of, stopped, without_all}
use Rattle.voters.specs.Calls.{all_canceled, unless_refused}
use Rattle.voters.specs.Refusals.{stop_refusal}
use Rattle.voters.specs.Results.{committed_in, is_committed, is_undecided, result_of, undecided_from, undecided_voters, voted_in}
use Rattle.voters.specs.Sub.{IsSound}
use Rattle.voters.specs.Votes.{Votes, after, run}
use Rattle.voters.specs.declared.act.Act.TheVariants as act
use Rattle.voters.specs.declared.mark.Mark.{Mark}
use Rattle.voters.specs.declared.outcome.Outcome.{Outcome}
use Rattle.voters.specs.declared.outcome.Outcome.TheVariants as outcome
use Rattle.voters.specs.declared.sub.StopRefusal.{StopRefusal}
use Rattle.voters.specs.declared.voter_result.VoterResult.{VoterResult}
use Rattle.voters.specs.declared.voter_result.VoterResult.TheVariants as result
use Rattle.voters.proofs.KeepLemmas.{Keeps, NoneCommitted, all_canceled-kept, cancel_commits_nothing, cancel_kept, cancel_voted, none_committed-kept}
use Rattle.voters.proofs.StepLemmas.{outcome_stays}
use Rattle.voters.proofs.SubLemmas.{stop_outcome}
use Rattle.cluster_form.proofs.Lists.{bool}
use Rattle.cluster_history.specs.Seen.{decided_hash}
use Rattle.vote_steps.proofs.Results.{none_committed, same_committed, without_all_voted}

-- who is told, and the decided hash, are the same
pub record SameTold (old new : Votes) : Type 0 where
  pub told : (voter : ℕ) → committed_in voter new ≡ committed_in voter old
  pub hash : decided_hash new.outcome ≡ decided_hash old.outcome

-- the same votes
told_all : (votes : Votes) → SameTold votes votes
told_all votes = record { told = λ voter. refl; hash = refl }

-- .. where the results are kept both ways, and a hash is decided only where it was
module _ (old new : Votes) (keeps : Keeps old new)
    (none : (voter : ℕ) → committed_in voter old ≡ false → committed_in voter new ≡ false)
    (was : (hash : Hash) → new.outcome ≡ outcome.Commit hash
    → old.outcome ≡ outcome.Commit hash) where
  -- who is told
  told_kept : (voter : ℕ) → committed_in voter new ≡ committed_in voter old
  told_kept voter = elim (bool (committed_in voter old)) [
    | inl holds ↦ (keeps.committed voter holds ∙ sym holds)
    | inr fails ↦ (none voter fails ∙ sym fails)
  ]

  -- a fixed outcome stays
  fixed_hash : (fixed : Outcome) → old.outcome ≡ fixed → (fixed ≡ outcome.Open → ⊥)
      → decided_hash new.outcome ≡ decided_hash old.outcome
  fixed_hash fixed is not_open =
      ap decided_hash (keeps.outcome (λ open_. not_open (sym is ∙ open_)))

  -- an open one commits nothing
  open_hash : (now : Outcome) → old.outcome ≡ outcome.Open → new.outcome ≡ now
      → decided_hash now ≡ None
  open_hash outcome.Open is then_ = refl
  open_hash outcome.Fail is then_ = refl
  open_hash outcome.Stop is then_ = refl
  open_hash (outcome.Commit hash) is then_ = absurd
      (let z : outcome.Open ≡ outcome.Commit hash = sym is ∙ was hash then_ in cc)

  -- so the decided hash stays
  hash_kept : (fixed : Outcome) → old.outcome ≡ fixed
      → decided_hash new.outcome ≡ decided_hash old.outcome
  hash_kept outcome.Open is = open_hash new.outcome is refl ∙ sym (ap decided_hash is)
  hash_kept (outcome.Commit hash) is = fixed_hash (outcome.Commit hash) is (λ z. cc)
  hash_kept outcome.Fail is = fixed_hash outcome.Fail is (λ z. cc)
  hash_kept outcome.Stop is = fixed_hash outcome.Stop is (λ z. cc)

  -- both are the same
  same_told : SameTold old new
  same_told = record { told = told_kept; hash = hash_kept old.outcome refl }

-- ---- one subtransaction

-- a stop after the outcome changes nothing of it
stopped_late : (votes : Votes) → (votes.outcome ≡ outcome.Open → ⊥)
    → SameTold votes (after votes act.Stop)
stopped_late votes fixed =
    let stays = outcome_stays votes act.Stop fixed in
    record {
      told = λ voter.
          same_committed votes (after votes act.Stop) (slice_get votes.marks voter) stays;
      hash = ap decided_hash stays;
    }

-- a stop decides for no hash
stop_at : (was : Outcome) (votes : Votes) → IsSound votes → votes.outcome ≡ was
    → SameTold votes (after votes act.Stop)
stop_at outcome.Open votes sound is =
    let now : (after votes act.Stop).outcome ≡ outcome.Stop = sym (stop_outcome votes sound is) in
    record {
      told = λ voter. none_committed voter (after votes act.Stop)
          (λ hash commits. let z : outcome.Stop ≡ outcome.Commit hash = sym now ∙ commits in cc)
          ∙ sym (none_committed voter votes
          (λ hash commits. let z : outcome.Open ≡ outcome.Commit hash = sym is ∙ commits in cc));
      hash = ap decided_hash now ∙ sym (ap decided_hash is);
    }
stop_at (outcome.Commit hash) votes sound is = stopped_late votes
    (λ open_. let z : outcome.Commit hash ≡ outcome.Open = sym is ∙ open_ in cc)
stop_at outcome.Fail votes sound is =
    stopped_late votes (λ open_. let z : outcome.Fail ≡ outcome.Open = sym is ∙ open_ in cc)
stop_at outcome.Stop votes sound is =
    stopped_late votes (λ open_. let z : outcome.Stop ≡ outcome.Open = sym is ∙ open_ in cc)

-- whether it is refused or not
stop_told : (refusal : Option StopRefusal) (votes : Votes) → IsSound votes
    → SameTold votes (unless_refused refusal votes act.Stop)
stop_told None votes sound = stop_at votes.outcome votes sound refl
stop_told (Some why) votes sound = told_all votes

-- a stop takes no vote away
stop_voted : (refusal : Option StopRefusal) (votes : Votes) (voter : ℕ)
    → voted_in voter (unless_refused refusal votes act.Stop) ≡ voted_in voter votes
stop_voted None votes voter = refl
stop_voted (Some why) votes voter = refl

-- a cancel of who is not told
cancel_told : (votes : Votes) (voter : ℕ) → IsSound votes → committed_in voter votes ≡ false
    → SameTold votes (after votes (act.Cancel voter))
cancel_told votes voter sound none =
    let kept = cancel_kept votes voter sound none in
    same_told votes (after votes (act.Cancel voter)) kept.votes.keeps kept.uncommitted
    (λ hash commits. cancel_commits_nothing votes voter hash sound commits)

-- cancels of some decide for no hash
cancels_commit_nothing : (voters : List ℕ) (votes : Votes) (hash : Hash) → IsSound votes
    → NoneCommitted votes voters → (run (map act.Cancel voters) votes).outcome ≡ outcome.Commit hash
    → votes.outcome ≡ outcome.Commit hash
cancels_commit_nothing [] votes hash sound none commits = commits
cancels_commit_nothing (voter ∷ voters) votes hash sound none commits =
    let kept = cancel_kept votes voter sound none.0 in
    let then_ = after votes (act.Cancel voter) in
    cancel_commits_nothing votes voter hash sound
    (cancels_commit_nothing voters then_ hash kept.votes.keeps.sound
    (none_committed-kept votes then_ voters kept none.1) commits)

-- who is undecided is not committed
undecided_is : (result : VoterResult) → is_undecided result ≡ true → is_committed result ≡ false
undecided_is result.Open is = refl
undecided_is (result.Committed standing) is = absurd (let z : false ≡ true = is in cc)
undecided_is result.Failed is = refl
undecided_is result.Canceled is = refl
undecided_is result.Stopped is = refl

-- so no undecided voter is committed
undecided_none : (votes : Votes) (marks : List Mark) (i : ℕ)
    → ((k : ℕ) → slice_get marks k ≡ slice_get votes.marks (i + k))
    → NoneCommitted votes (undecided_from votes i marks)
undecided_none votes [] i at = tt
undecided_none votes (mark ∷ marks) i at =
    let there : slice_get votes.marks i ≡ Some mark =
    ap (slice_get votes.marks) (let z : i ≡ i + 0 = omega arith in z) ∙ sym (at 0) in
    let later : NoneCommitted votes (undecided_from votes (i + 1) marks) =
    undecided_none votes marks (i + 1) (λ k. at (suc k)
    ∙ ap (slice_get votes.marks) (let z : i + suc k ≡ i + 1 + k = omega arith in z)) in
    elim (bool (is_undecided (result_of votes mark))) [
      | inl holds ↦ (rw holds (rw there (undecided_is (result_of votes mark) holds), later))
      | inr fails ↦ (rw fails later)
    ]

-- a cancel of all that are undecided
cancel_all_told : (votes : Votes) → IsSound votes → SameTold votes (all_canceled votes)
cancel_all_told votes sound =
    let kept = all_canceled-kept votes sound in
    same_told votes (all_canceled votes) kept.votes.keeps kept.uncommitted
    (λ hash commits. cancels_commit_nothing (undecided_voters votes) votes hash sound
    (undecided_none votes votes.marks 0
    (λ i. ap (slice_get votes.marks) (let z : i ≡ 0 + i = omega arith in z))) commits)

-- ---- the two phases

-- the act is a cast
abbrev pub casts : TxAct → Bool
casts (Cast voter hash) = true
casts (CancelVoter voter) = false
casts Cancel = false
casts Stop = false

-- two subtransactions are left, with the same told in the first and the same votes in the second
pub record HasActed (prepared committed : Votes) (subs : List Votes) : Type 0 where
  pub first : Votes
  pub second : Votes
  pub is : subs ≡ first ∷ second ∷ []
  pub same : SameTold prepared first
  pub voted : (voter : ℕ) → voted_in voter second ≡ voted_in voter committed

module _ (prepared committed : Votes) (chain : IsChain (prepared ∷ committed ∷ [])) where
  -- the committed phase after a cancel of a voter that is done in the other one
  abbrev canceled_late : ℕ → Votes
  canceled_late voter = if committed_in voter committed then committed
      else after committed (act.Cancel voter)

  -- such a cancel leaves who voted
  late_voted : (voter : ℕ) (done : Bool) (other : ℕ)
      → voted_in other (if done then committed else after committed (act.Cancel voter))
      ≡ voted_in other committed
  late_voted voter true other = refl
  late_voted voter false other = cancel_voted other voter committed

  -- what it leaves of both phases
  canceled_second : (voter : ℕ) → committed_in voter prepared ≡ true
      → after_act (prepared ∷ committed ∷ []) (CancelVoter voter)
      ≡ prepared ∷ without_all (out_of prepared) (canceled_late voter) ∷ []
  canceled_second voter told = elim (bool (committed_in voter committed)) [
    | inl holds ↦ (rw (told, holds) refl)
    | inr fails ↦ (rw (told, fails) refl)
  ]

  -- each act that is no cast
  pub other_act : (done : TxAct) → casts done ≡ false
      → HasActed prepared committed (after_act (prepared ∷ committed ∷ []) done)
  other_act (Cast voter hash) plain = absurd (let z : true ≡ false = plain in cc)
  other_act (CancelVoter voter) plain = elim (bool (committed_in voter prepared)) [
    | inl told ↦ record {
      first = prepared;
      second = without_all (out_of prepared) (canceled_late voter);
      is = canceled_second voter told;
      same = told_all prepared;
      voted = λ other. without_all_voted (out_of prepared) (canceled_late voter) other
          ∙ late_voted voter (committed_in voter committed) other;
    }
    | inr untold ↦ (let then_ = after prepared (act.Cancel voter) in record {
      first = then_;
      second = without_all (out_of then_) committed;
      is = (rw untold refl);
      same = cancel_told prepared voter chain.0 untold;
      voted = λ other. without_all_voted (out_of then_) committed other;
    })
  ]
  other_act Cancel plain = record {
    first = all_canceled prepared;
    second = without_all (out_of (all_canceled prepared)) (all_canceled committed);
    is = refl;
    same = cancel_all_told prepared chain.0;
    voted = λ other.
        without_all_voted (out_of (all_canceled prepared)) (all_canceled committed) other
        ∙ (all_canceled-kept committed chain.2.0).votes.voted other;
  }
  other_act Stop plain = record {
    first = stopped prepared;
    second = without_all (out_of (stopped prepared)) (stopped committed);
    is = refl;
    same = stop_told (stop_refusal prepared) prepared chain.0;
    voted = λ other. without_all_voted (out_of (stopped prepared)) (stopped committed) other
        ∙ stop_voted (stop_refusal committed) committed other;
  }
