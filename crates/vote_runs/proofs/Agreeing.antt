-- A subtransaction that sees only casts and cancels is not stopped, and has failed only where it is lost
-- for good. So where a quorum named one hash, and none of it was canceled, it commits that hash.
use Rattle.std.proofs.Common.{◌≡◌, ◌<◌, ◌≤◌, ◌+◌, ◌||◌, ◌⊎◌, ℕ, zero, suc, List, [], ◌∷◌, Bool, true, false, Option, None, Some, refl, sym, ◌∙◌, ap, subst, inl, inr, if◌then◌else◌, length, map, slice_get, arith}
use Rattle.std.proofs.lemmas.List.Sums.{sum_by-cons}
use Rattle.px_base.specs.Hash.{same_hash, same_hash-Decides}
use Rattle.px_base.specs.declared.hash.Hash.{Hash}
use Rattle.txmanager.specs.Rounds.{is_gone, without, without_all}
use Rattle.voters.specs.Marks.{canceling, committed_hash, is_lost, mark_weight, open_share, open_weight, share, standing_weight}
use Rattle.voters.specs.Refusals.{is_stopped}
use Rattle.voters.specs.Rule.{weight_from}
use Rattle.voters.specs.Sub.{IsSound}
use Rattle.voters.specs.Votes.{Poll, Votes, after, casting, changed_at, decided, decision, first_vote, is_stop, marks_after, or_later}
use Rattle.voters.specs.declared.act.Act.{Act}
use Rattle.voters.specs.declared.act.Act.TheVariants as act
use Rattle.voters.specs.declared.mark.Mark.{Mark}
use Rattle.voters.specs.declared.outcome.Outcome.{Outcome}
use Rattle.voters.specs.declared.outcome.Outcome.TheVariants.{Open, Commit, Fail, Stop}
use Rattle.voters.proofs.KeepLemmas.{changed_there, same_index, was_there}
use Rattle.voters.proofs.LostLemmas.{lost_each}
use Rattle.voters.proofs.OutcomeLemmas.{committed_hash-some, one_commits}
use Rattle.cluster_form.proofs.Lists.{bool, choose}

-- ---- weights

-- what may still come to stand for a hash is not more after the change
abbrev Lessens : (Mark → Mark) → Type 0
Lessens change = (hash : Hash) (mark : Mark)
    → share hash (change mark) + open_share (change mark) ≤ share hash mark + open_share mark

-- .. of one mark of all
lessened : (change : Mark → Mark) → Lessens change → (hash : Hash) (marks : List Mark) (voter : ℕ)
    → standing_weight hash (changed_at voter change marks)
    + open_weight (changed_at voter change marks)
    ≤ standing_weight hash marks + open_weight marks
lessened change less hash [] voter = omega arith
lessened change less hash (mark ∷ marks) zero = omega (
  arith,
  less hash mark,
  sum_by-cons (share hash) (change mark) marks,
  sum_by-cons open_share (change mark) marks,
  sum_by-cons (share hash) mark marks,
  sum_by-cons open_share mark marks,
)
lessened change less hash (mark ∷ marks) (suc voter) = omega (
  arith,
  lessened change less hash marks voter,
  sum_by-cons (share hash) mark (changed_at voter change marks),
  sum_by-cons open_share mark (changed_at voter change marks),
  sum_by-cons (share hash) mark marks,
  sum_by-cons open_share mark marks,
)

-- a voter that voted has no more to give
casting_share : (given : Hash) → Lessens (casting given)
casting_share given hash mark = by mark.weight mark.vote mark.canceled
  where
    by : (weight : ℕ) (vote : Option Hash) (canceled : Bool)
        → let m : Mark = record { weight = weight; vote = vote; canceled = canceled } in
        share hash (casting given m) + open_share (casting given m) ≤ share hash m + open_share m
    by weight (Some own) canceled = omega arith
    by weight None true = omega arith
    by weight None false = elim (bool (same_hash given hash)) [
      | inl holds ↦ (rw holds (omega arith))
      | inr fails ↦ (rw fails (omega arith))
    ]

-- .. nor has one that is canceled
canceling_share : Lessens canceling
canceling_share hash mark = omega arith

-- ---- what casts and cancels keep

-- Its marks weigh what the poll says, and it has the threshold of that. It is not stopped, and where it
-- failed, no hash can come to the threshold.
pub record IsFair (poll : Poll) (votes : Votes) : Type 0 where
  pub within : (voter : ℕ) (mark : Mark) → slice_get votes.marks voter ≡ Some mark → voter < length poll.weights
  pub weights : map mark_weight votes.marks ≡ poll.weights
  pub threshold : votes.threshold ≡ poll.threshold
  pub goes : votes.outcome ≡ Stop → ⊥
  pub lost : votes.outcome ≡ Fail → (hash : Hash)
      → standing_weight hash votes.marks + open_weight votes.marks < votes.threshold

-- what nothing stops is not decided to be a stop
unstopped : (before : Outcome) (committed : Option Hash) (lost : Bool)
    → or_later before (decided committed lost false) ≡ Stop → before ≡ Stop
unstopped Open (Some hash) lost is = absurd (cc)
unstopped Open None true is = absurd (cc)
unstopped Open None false is = absurd (cc)
unstopped (Commit hash) committed lost is = absurd (cc)
unstopped Fail committed lost is = absurd (cc)
unstopped Stop committed lost is = refl

-- what has failed had failed, or is lost
failed : (before : Outcome) (committed : Option Hash) (lost : Bool)
    → or_later before (decided committed lost false) ≡ Fail
    → (before ≡ Fail) ⊎ (lost ≡ true)
failed Open (Some hash) lost is = absurd (cc)
failed Open None true is = inr refl
failed Open None false is = absurd (cc)
failed (Commit hash) committed lost is = absurd (cc)
failed Fail committed lost is = inl refl
failed Stop committed lost is = absurd (cc)

-- the same, of the outcome after an act
unstopped_by : (before : Outcome) (threshold : ℕ) (marks : List Mark)
    → or_later before (decision threshold marks false) ≡ Stop → before ≡ Stop
unfolding decision
unstopped_by before threshold marks =
    unstopped before (committed_hash threshold marks) (is_lost threshold marks)

-- .. where it failed
failed_by : (before : Outcome) (threshold : ℕ) (marks : List Mark)
    → or_later before (decision threshold marks false) ≡ Fail
    → (before ≡ Fail) ⊎ (is_lost threshold marks ≡ true)
unfolding decision
failed_by before threshold marks =
    failed before (committed_hash threshold marks) (is_lost threshold marks)

-- a change of one mark leaves the weights
weights_stay : (change : Mark → Mark) → ((mark : Mark) → (change mark).weight ≡ mark.weight)
    → (marks : List Mark) (voter : ℕ)
    → map mark_weight (changed_at voter change marks) ≡ map mark_weight marks
weights_stay change same [] voter = refl
weights_stay change same (mark ∷ marks) zero = ap (λ w. w ∷ map mark_weight marks) (same mark)
weights_stay change same (mark ∷ marks) (suc voter) =
    ap (λ (ws : List ℕ). mark.weight ∷ ws) (weights_stay change same marks voter)

-- a change of one mark keeps it
fair_by : (poll : Poll) (votes : Votes) (voter : ℕ) (change : Mark → Mark) (done : Act)
    → Lessens change → ((mark : Mark) → (change mark).weight ≡ mark.weight)
    → is_stop done ≡ false
    → marks_after done votes.marks ≡ changed_at voter change votes.marks → IsFair poll votes
    → IsFair poll (after votes done)
fair_by poll votes voter change done less same_weight goes is fair =
    let marks = marks_after done votes.marks in
    let same = ap (λ b. or_later votes.outcome (decision votes.threshold marks b)) goes in
    record {
      within = λ other mark there. (let was = was_there votes.marks voter other change mark
          (ap (λ (ms : List Mark). slice_get ms other) (sym is) ∙ there) in
          fair.within other was.mark was.there);
      weights = ap (λ (ms : List Mark). map mark_weight ms) is
          ∙ weights_stay change same_weight votes.marks voter ∙ fair.weights;
      threshold = fair.threshold;
      goes = λ stopped. fair.goes (unstopped_by votes.outcome votes.threshold marks
          (sym same ∙ stopped));
      lost = λ has_failed hash. elim (failed_by votes.outcome votes.threshold marks
          (sym same ∙ has_failed)) [
            | inl before ↦ (let few = fair.lost before hash in
                let less_ = lessened change less hash votes.marks voter in
                subst (λ (ms : List Mark). standing_weight hash ms + open_weight ms < votes.threshold)
                (sym is) (omega (arith, few, less_)))
            | inr lost ↦ lost_each votes.threshold marks lost hash
          ];
    }

-- a cast
pub fair_cast : (poll : Poll) (votes : Votes) (voter : ℕ) (hash : Hash) → IsFair poll votes
    → IsFair poll (after votes (act.Cast voter hash))
fair_cast poll votes voter hash =
    fair_by poll votes voter (casting hash) (act.Cast voter hash) (casting_share hash)
    (λ mark. refl) refl refl

-- .. a cancel
fair_cancel : (poll : Poll) (votes : Votes) (voter : ℕ) → IsFair poll votes
    → IsFair poll (after votes (act.Cancel voter))
fair_cancel poll votes voter =
    fair_by poll votes voter canceling (act.Cancel voter) canceling_share (λ mark. refl) refl refl

-- .. and the carrying over
pub fair_carried : (poll : Poll) (voters : List ℕ) (votes : Votes) → IsFair poll votes
    → IsFair poll (without_all voters votes)
fair_carried poll [] votes fair = fair
fair_carried poll (voter ∷ voters) votes fair =
    fair_carried poll voters (without voter votes) (choose (IsFair poll)
    (is_stopped votes.outcome || is_gone (slice_get votes.marks voter)) votes
    (after votes (act.Cancel voter)) (λ passed_over. fair)
    (λ counts. fair_cancel poll votes voter fair))

-- ---- votes that are cast

-- the voter voted for the hash
pub record HasVoted (votes : Votes) (voter : ℕ) (hash : Hash) : Type 0 where
  pub mark : Mark
  pub there : slice_get votes.marks voter ≡ Some mark
  pub vote : mark.vote ≡ Some hash

-- who voted has voted for the same
abbrev pub KeepsVotes : Votes → Votes → Type 0
KeepsVotes old new = (voter : ℕ) (hash : Hash) → HasVoted old voter hash → HasVoted new voter hash

-- a later cast is no vote
still_first : (hash given : Hash) (vote : Option Hash) → vote ≡ Some hash
    → first_vote vote given ≡ Some hash
still_first hash given None is = absurd (let none : None ≡ Some hash = is in cc)
still_first hash given (Some own) is = is

-- a change of one mark that takes no vote away
votes_by : (votes : Votes) (voter : ℕ) (change : Mark → Mark) (done : Act)
    → ((hash : Hash) (mark : Mark) → mark.vote ≡ Some hash → (change mark).vote ≡ Some hash)
    → marks_after done votes.marks ≡ changed_at voter change votes.marks
    → KeepsVotes votes (after votes done)
votes_by votes voter change done keeps is other hash has = record {
  mark = if same_index voter other then change has.mark else has.mark;
  there = ap (λ (ms : List Mark). slice_get ms other) is
      ∙ changed_there votes.marks voter other change has.mark has.there;
  vote = choose (λ (m : Mark). m.vote ≡ Some hash) (same_index voter other) (change has.mark)
      has.mark (λ here. keeps hash has.mark has.vote) (λ elsewhere. has.vote);
}

-- a cast
pub votes_cast : (votes : Votes) (voter : ℕ) (given : Hash)
    → KeepsVotes votes (after votes (act.Cast voter given))
votes_cast votes voter given = votes_by votes voter (casting given) (act.Cast voter given)
    (λ hash mark is. still_first hash given mark.vote is) refl

-- .. and the carrying over
pub votes_carried : (voters : List ℕ) (votes : Votes) → KeepsVotes votes (without_all voters votes)
votes_carried [] votes voter hash has = has
votes_carried (first ∷ voters) votes voter hash has =
    votes_carried voters (without first votes) voter hash (choose
    (λ (v : Votes). HasVoted v voter hash)
    (is_stopped votes.outcome || is_gone (slice_get votes.marks first)) votes
    (after votes (act.Cancel first)) (λ passed_over. has)
    (λ counts. votes_by votes first canceling (act.Cancel first) (λ given mark is. is) refl voter
    hash has))

-- ---- a quorum for one hash

-- its vote stands for the hash
pub record StandsFor (hash : Hash) (mark : Mark) : Type 0 where
  pub stands : mark.canceled ≡ false
  pub vote : mark.vote ≡ Some hash

-- where the votes of some do, the weight of those is no more than that of the hash
weight_of_some : (hash : Hash) (agree : ℕ → Bool) (i : ℕ) (marks : List Mark)
    → ((voter : ℕ) (mark : Mark) → slice_get marks voter ≡ Some mark → agree (i + voter) ≡ true
    → StandsFor hash mark)
    → weight_from agree i (map mark_weight marks) ≤ standing_weight hash marks
weight_of_some hash agree i [] each = omega arith
weight_of_some hash agree i (mark ∷ marks) each =
    let rest = weight_of_some hash agree (i + 1) marks (λ voter later there agrees.
    each (suc voter) later there
    (ap agree (let z : i + suc voter ≡ i + 1 + voter = omega arith in z) ∙ agrees)) in
    let all = sum_by-cons (share hash) mark marks in
    elim (bool (agree i)) [
      | inl agrees ↦ (let first = each 0 mark refl
          (ap agree (let z : i + 0 ≡ i = omega arith in z) ∙ agrees) in
          let own : share hash mark ≡ mark.weight =
          rw (first.stands, first.vote, (same_hash-Decides hash hash).1 refl) refl in
          rw agrees (omega (arith, own, rest, all)))
      | inr not_ ↦ (rw not_ (omega (arith, rest, all)))
    ]

-- so where those are a quorum, the outcome is the commit of it
pub commits_it : (poll : Poll) (hash : Hash) (agree : ℕ → Bool) (votes : Votes) → IsSound votes
    → IsFair poll votes → poll.threshold ≤ weight_from agree 0 poll.weights
    → ((voter : ℕ) (mark : Mark) → slice_get votes.marks voter ≡ Some mark → agree voter ≡ true
    → StandsFor hash mark)
    → votes.outcome ≡ Commit hash
commits_it poll hash agree votes sound fair quorum each = by votes.outcome refl
  where
    reaches : votes.threshold ≤ standing_weight hash votes.marks
    reaches = let some = weight_of_some hash agree 0 votes.marks (λ voter mark there agrees.
        each voter mark there (ap agree (let z : voter ≡ 0 + voter = omega arith in z) ∙ agrees)) in
        let same = ap (λ (ws : List ℕ). weight_from agree 0 ws) fair.weights in
        let threshold = fair.threshold in omega (arith, some, same, threshold, quorum)

    by : (fixed : Outcome) → votes.outcome ≡ fixed → votes.outcome ≡ Commit hash
    by Open is = absurd (let none : None ≡ Some hash = sym (sound.none is)
        ∙ committed_hash-some votes.threshold votes.marks hash sound.most reaches in cc)
    by (Commit other) is = is ∙ ap (λ h. Commit h) (one_commits votes.threshold votes.marks other
        hash sound.most (sound.leads other is) reaches)
    by Fail is = absurd (let few = fair.lost is hash in omega (arith, few, reaches))
    by Stop is = absurd (fair.goes is)
