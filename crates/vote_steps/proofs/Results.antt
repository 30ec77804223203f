-- The results of voters in one subtransaction: whom an act commits, and who voted.
use Rattle.std.proofs.Common.{◌≡◌, ◌||◌, ℕ, zero, suc, List, [], ◌∷◌, Bool, true, false, Option, None, Some, refl, sym, ◌∙◌, ap, inl, inr, slice_get}
use Rattle.std.specs.Option.{option_map}
use Rattle.px_base.specs.Hash.{same_hash}
use Rattle.px_base.specs.declared.hash.Hash.{Hash}
use Rattle.txmanager.specs.Rounds.{is_gone, without, without_all}
use Rattle.voters.specs.Refusals.{cast_refusal, cast_refusal_at, is_stopped}
use Rattle.voters.specs.Results.{committed_in, has_vote, is_committed, is_committed_at, result_by, result_of, standing_of, voted_in}
use Rattle.voters.specs.Verdict.{Standing}
use Rattle.voters.specs.Votes.{Votes, after, casting, changed_at}
use Rattle.voters.specs.declared.act.Act.TheVariants as act
use Rattle.voters.specs.declared.mark.Mark.{Mark}
use Rattle.voters.specs.declared.outcome.Outcome.{Outcome}
use Rattle.voters.specs.declared.outcome.Outcome.TheVariants as outcome
use Rattle.voters.specs.declared.sub.CastRefusal.TheVariants as cast
use Rattle.voters.proofs.KeepLemmas.{cancel_voted, changed_there, committed-parts, same_index}
use Rattle.voters.proofs.StepLemmas.{outcome_stays}
use Rattle.cluster_form.proofs.Lists.{bool, choose}

-- ---- who is committed

-- where someone is, the outcome is a commit
pub commit_is : (voter : ℕ) (votes : Votes) (fixed : Outcome) → votes.outcome ≡ fixed
    → committed_in voter votes ≡ true → (hash : Hash) × (fixed ≡ outcome.Commit hash)
commit_is voter votes fixed is told =
    let parts = committed-parts voter votes told in (parts.hash, sym is ∙ parts.outcome)

-- nobody is where it is none
pub none_committed : (voter : ℕ) (votes : Votes)
    → ((hash : Hash) → votes.outcome ≡ outcome.Commit hash → ⊥) → committed_in voter votes ≡ false
none_committed voter votes never = elim (bool (committed_in voter votes)) [
  | inl holds ↦ (let parts = committed-parts voter votes holds in
      absurd (never parts.hash parts.outcome))
  | inr fails ↦ fails
]

-- another element than the one that changed
got_changed : {A : Type 0} (xs : List A) (changed other : ℕ) (f : A → A) → (changed ≡ other → ⊥)
    → slice_get (changed_at changed f xs) other ≡ slice_get xs other
got_changed [] changed other f differs = refl
got_changed (x ∷ xs) zero zero f differs = absurd (differs refl)
got_changed (x ∷ xs) zero (suc other) f differs = refl
got_changed (x ∷ xs) (suc changed) zero f differs = refl
got_changed (x ∷ xs) (suc changed) (suc other) f differs =
    got_changed xs changed other f (λ same. differs (ap suc same))

-- whether a result is committed does not hang on the weight that stands
same_standing : (canceled : Bool) (fixed : Outcome) (vote : Option Hash) (a b : Hash → Standing)
    → is_committed (result_by canceled fixed vote a)
    ≡ is_committed (result_by canceled fixed vote b)
same_standing true fixed vote a b = refl
same_standing false outcome.Stop vote a b = refl
same_standing false outcome.Open vote a b = refl
same_standing false (outcome.Commit hash) None a b = refl
same_standing false outcome.Fail None a b = refl
same_standing false outcome.Fail (Some own) a b = refl
same_standing false (outcome.Commit hash) (Some own) a b = elim (bool (same_hash hash own)) [
  | inl holds ↦ (rw holds refl)
  | inr fails ↦ (rw fails refl)
]

-- it goes by the outcome and the voter's mark
pub same_committed : (old new : Votes) (mark : Option Mark) → new.outcome ≡ old.outcome
    → is_committed_at (option_map (result_of new) mark)
    ≡ is_committed_at (option_map (result_of old) mark)
same_committed old new None stays = refl
same_committed old new (Some mark) stays =
    ap (λ o. is_committed (result_by mark.canceled o mark.vote (standing_of new))) stays
    ∙ same_standing mark.canceled old.outcome mark.vote (standing_of new) (standing_of old)

-- so once the outcome is fixed, a cast changes no other voter's
pub cast_others : (votes : Votes) (voter other : ℕ) (hash : Hash)
    → (votes.outcome ≡ outcome.Open → ⊥) → (voter ≡ other → ⊥)
    → committed_in other (after votes (act.Cast voter hash)) ≡ committed_in other votes
cast_others votes voter other hash fixed differs =
    let cast_ = after votes (act.Cast voter hash) in
    ap (λ mark. is_committed_at (option_map (result_of cast_) mark))
    (got_changed votes.marks voter other (casting hash) differs)
    ∙ same_committed votes cast_ (slice_get votes.marks other)
    (outcome_stays votes (act.Cast voter hash) fixed)

-- ---- who voted

-- the carrying over takes no vote away, and adds none
pub without_all_voted : (voters : List ℕ) (votes : Votes) (voter : ℕ)
    → voted_in voter (without_all voters votes) ≡ voted_in voter votes
without_all_voted [] votes voter = refl
without_all_voted (first ∷ voters) votes voter =
    without_all_voted voters (without first votes) voter ∙ choose
    (λ (v : Votes). voted_in voter v ≡ voted_in voter votes)
    (is_stopped votes.outcome || is_gone (slice_get votes.marks first)) votes
    (after votes (act.Cancel first)) (λ passed_over. refl)
    (λ counts. cancel_voted voter first votes)

-- a voter whose cast is counted had no vote
no_vote_at : (fixed : Outcome) (mark : Option Mark) → cast_refusal_at fixed mark ≡ None
    → (own : Mark) × (mark ≡ Some own) × (own.vote ≡ None)
no_vote_at fixed None counts = absurd (let z : Some cast.NotAVoter ≡ None = counts in cc)
no_vote_at fixed (Some own) counts = (
  own,
  refl,
  elim (bool own.canceled) [
    | inl canceled ↦ absurd (let z : Some cast.Canceled ≡ None = rw canceled at counts in cc)
    | inr stands ↦ elim (bool (is_stopped fixed)) [
      | inl stopped ↦ absurd (
          let z : Some cast.Stopped ≡ None = rw stopped at (rw stands at counts) in cc)
      | inr goes ↦ none own.vote (rw goes at (rw stands at counts))
    ]
  ],
)
  where
    none : (vote : Option Hash) → option_map cast.AlreadyVoted vote ≡ None → vote ≡ None
    none None is = refl
    none (Some hash) is = absurd (let z : Some (cast.AlreadyVoted hash) ≡ None = is in cc)

-- a number is itself
same_index-self : (i : ℕ) → same_index i i ≡ true
same_index-self zero = refl
same_index-self (suc i) = same_index-self i

module _ (votes : Votes) (voter : ℕ) (hash : Hash) (counts : cast_refusal votes voter ≡ None) where
  -- the voter had not voted
  pub unvoted : voted_in voter votes ≡ false
  unvoted = let own = no_vote_at votes.outcome (slice_get votes.marks voter) counts in
      ap has_vote own.1 ∙ (let is = own.2 in rw is refl)

  -- .. and has one then
  pub now_voted : voted_in voter (after votes (act.Cast voter hash)) ≡ true
  now_voted = let own = no_vote_at votes.outcome (slice_get votes.marks voter) counts in
      ap has_vote (changed_there votes.marks voter voter (casting hash) own.0 own.1)
      ∙ (let is = own.2 in rw (same_index-self voter) (rw is refl))
