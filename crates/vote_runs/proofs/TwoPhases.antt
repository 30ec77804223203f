-- The two subtransactions of a push, over casts alone: nobody is canceled in the prepared phase, and who
-- is canceled in the committed one is out of the prepared one. Votes that are cast stay.
use Rattle.std.proofs.Common.{◌≡◌, ◌<◌, ◌≤◌, ℕ, zero, suc, List, [], ◌∷◌, Bool, true, false, Option, None, Some, refl, sym, ◌∙◌, ap, subst, inl, inr, if◌then◌else◌, length, slice_get, arith}
use Rattle.std.specs.Option.{option_map}
use Rattle.px_base.specs.Hash.{same_hash, same_hash-Decides}
use Rattle.px_base.specs.declared.hash.Hash.{Hash}
use Rattle.px_base.specs.declared.phase.Phase.{Phase}
use Rattle.px_base.specs.declared.phase.Phase.TheVariants.{Prepared, Committed}
use Rattle.txmanager.proofs.CarryLemmas.{act_step}
use Rattle.txmanager.proofs.OnlyLemmas.{only}
use Rattle.txmanager.specs.Chain.{IsChain}
use Rattle.txmanager.specs.Readings.{IsOutBefore, is_canceled, is_out_at}
use Rattle.txmanager.specs.Rounds.{Cast, after_act, is_out, out_of, without_all}
use Rattle.voters.specs.Refusals.{cast_refusal, cast_refusal_at, is_stopped}
use Rattle.voters.specs.Results.{committed_in, result_at, result_by, result_of, standing_of}
use Rattle.voters.specs.Rule.{weight_from}
use Rattle.voters.specs.Verdict.{Standing}
use Rattle.voters.specs.Votes.{Poll, Votes, after, casting, first_vote, marks_after, or_later}
use Rattle.voters.specs.declared.act.Act.TheVariants as act
use Rattle.voters.specs.declared.mark.Mark.{Mark}
use Rattle.voters.specs.declared.outcome.Outcome.{Outcome}
use Rattle.voters.specs.declared.outcome.Outcome.TheVariants as outcome
use Rattle.voters.specs.declared.sub.CastRefusal.TheVariants as cast
use Rattle.voters.proofs.KeepLemmas.{changed_there, same_index, was_there}
use Rattle.cluster_form.proofs.Lists.{bool, choose, some_is}
use Rattle.vote_runs.proofs.Agreeing.{HasVoted, IsFair, KeepsVotes, commits_it, fair_carried, fair_cast, votes_carried, votes_cast}

-- ---- who is out stays so

-- by the parts of a result
out_by : (canceled : Bool) (fixed then_ : Outcome) (vote later : Option Hash)
    (one other : Hash → Standing) → ((own : Hash) → vote ≡ Some own → later ≡ Some own)
    → is_out (result_by canceled fixed vote one) ≡ true
    → is_out (result_by canceled (or_later fixed then_) later other) ≡ true
out_by true fixed then_ vote later one other keeps out = refl
out_by false outcome.Open then_ vote later one other keeps out =
    absurd (let z : false ≡ true = out in cc)
out_by false outcome.Stop then_ vote later one other keeps out = refl
out_by false outcome.Fail then_ None later one other keeps out =
    absurd (let z : false ≡ true = out in cc)
out_by false outcome.Fail then_ (Some own) later one other keeps out = rw (keeps own refl) refl
out_by false (outcome.Commit hash) then_ None later one other keeps out =
    absurd (let z : false ≡ true = out in cc)
out_by false (outcome.Commit hash) then_ (Some own) later one other keeps out =
    elim (bool (same_hash hash own)) [
      | inl holds ↦ absurd (let z : false ≡ true = rw holds at out in cc)
      | inr fails ↦ (rw (keeps own refl) (rw fails refl))
    ]

-- a later cast takes no vote away
vote_stays : (mark : Mark) (given own : Hash) → mark.vote ≡ Some own
    → (casting given mark).vote ≡ Some own
vote_stays mark given own is = ap (λ o. first_vote o given) is

-- after a cast
out_kept : (votes : Votes) (voter other : ℕ) (given : Hash) (found : Option Mark)
    → slice_get votes.marks other ≡ found → is_out_at (option_map (result_of votes) found) ≡ true
    → is_out_at (result_at (after votes (act.Cast voter given)) other) ≡ true
out_kept votes voter other given None there out = absurd (let z : false ≡ true = out in cc)
out_kept votes voter other given (Some mark) there out =
    let now = after votes (act.Cast voter given) in
    ap (λ m. is_out_at (option_map (result_of now) m))
    (changed_there votes.marks voter other (casting given) mark there)
    ∙ choose (λ (m : Mark). is_out (result_of now m) ≡ true) (same_index voter other)
    (casting given mark) mark
    (λ here. out_by mark.canceled votes.outcome _ mark.vote (casting given mark).vote
    (standing_of votes) (standing_of now) (vote_stays mark given) out)
    (λ elsewhere. out_by mark.canceled votes.outcome _ mark.vote mark.vote (standing_of votes)
    (standing_of now) (λ own is. is) out)

-- ---- who is canceled

-- a cast cancels nobody
cancels_none : (marks : List Mark) (voter other : ℕ) (given : Hash) (mark : Mark)
    → slice_get (marks_after (act.Cast voter given) marks) other ≡ Some mark
    → (own : Mark) × (slice_get marks other ≡ Some own) × (mark.canceled ≡ own.canceled)
cancels_none marks voter other given mark there =
    let was = was_there marks voter other (casting given) mark there in (
      was.mark,
      was.there,
      ap (λ (m : Mark). m.canceled) was.is ∙ choose (λ (m : Mark). m.canceled ≡ was.mark.canceled)
          (same_index voter other) (casting given was.mark) was.mark (λ here. refl)
          (λ elsewhere. refl),
    )

-- .. whoever there is
canceled_before : (marks : List Mark) (voter other : ℕ) (given : Hash) (found : Option Mark)
    → slice_get (marks_after (act.Cast voter given) marks) other ≡ found
    → is_canceled found ≡ true → is_canceled (slice_get marks other) ≡ true
canceled_before marks voter other given None there is = absurd (let z : false ≡ true = is in cc)
canceled_before marks voter other given (Some mark) there is =
    let was = cancels_none marks voter other given mark there in
    ap is_canceled was.1 ∙ sym was.2 ∙ is

-- ---- a vote that is counted

-- a number is itself
same_index-self : (i : ℕ) → same_index i i ≡ true
same_index-self zero = refl
same_index-self (suc i) = same_index-self i

-- who may cast had no vote
free_to_vote : (fixed : Outcome) (mark : Mark) → cast_refusal_at fixed (Some mark) ≡ None
    → mark.vote ≡ None
free_to_vote fixed mark counts = elim (bool mark.canceled) [
  | inl canceled ↦ absurd (let z : Some cast.Canceled ≡ None = rw canceled at counts in cc)
  | inr stands ↦ elim (bool (is_stopped fixed)) [
    | inl stopped ↦ absurd (
        let z : Some cast.Stopped ≡ None = rw stopped at (rw stands at counts) in cc)
    | inr goes ↦ none mark.vote (rw goes at (rw stands at counts))
  ]
]
  where
    none : (vote : Option Hash) → option_map cast.AlreadyVoted vote ≡ None → vote ≡ None
    none None is = refl
    none (Some own) is = absurd (let z : Some (cast.AlreadyVoted own) ≡ None = is in cc)

-- so the cast is its vote
has_voted : (votes : Votes) (voter : ℕ) (hash : Hash) → cast_refusal votes voter ≡ None
    → HasVoted (after votes (act.Cast voter hash)) voter hash
has_voted votes voter hash counts = by (slice_get votes.marks voter) refl counts
  where
    by : (found : Option Mark) → slice_get votes.marks voter ≡ found
        → cast_refusal_at votes.outcome found ≡ None
        → HasVoted (after votes (act.Cast voter hash)) voter hash
    by None there counts_ = absurd (let z : Some cast.NotAVoter ≡ None = counts_ in cc)
    by (Some mark) there counts_ = record {
      mark = casting hash mark;
      there = changed_there votes.marks voter voter (casting hash) mark there
          ∙ ap (λ b. let found : Option Mark = Some (if b then casting hash mark else mark) in found)
          (same_index-self voter);
      vote = ap (λ o. first_vote o hash) (free_to_vote votes.outcome mark counts_);
    }

-- ---- the two phases

-- the subtransaction of a phase
abbrev pub in_phase : Phase → Votes → Votes → Votes
in_phase Prepared first second = first
in_phase Committed first second = second

pub record IsPlain (poll : Poll) (first second : Votes) : Type 0 where
  pub chain : IsChain (first ∷ second ∷ [])
  pub prepared : IsFair poll first
  pub committed : IsFair poll second
  pub stands : (voter : ℕ) (mark : Mark) → slice_get first.marks voter ≡ Some mark
      → mark.canceled ≡ false
  pub out : (voter : ℕ) → is_canceled (slice_get second.marks voter) ≡ true
      → is_out_at (result_at first voter) ≡ true

-- what a cast leaves: two phases of the same kind, with all votes that were cast
pub record HasGoneOn (poll : Poll) (first second : Votes) (subs : List Votes) : Type 0 where
  pub prepared : Votes
  pub committed : Votes
  pub is : subs ≡ prepared ∷ committed ∷ []
  pub plain : IsPlain poll prepared committed
  pub in_prepared : KeepsVotes first prepared
  pub in_committed : KeepsVotes second committed

module _ (poll : Poll) (first second : Votes) (plain : IsPlain poll first second) where
  abbrev subs : List Votes
  subs = first ∷ second ∷ []

  -- an outage in front of the committed phase is one of the prepared phase
  out_in_front : (voter : ℕ) (prepared later : Votes)
      → IsOutBefore voter 1 (prepared ∷ later ∷ [])
      → is_out_at (result_at prepared voter) ≡ true
  out_in_front voter prepared later out = at out.at out.before out.there
    where
      at : (i : ℕ) → i < 1 → slice_get (prepared ∷ later ∷ []) i ≡ Some out.sub
          → is_out_at (result_at prepared voter) ≡ true
      at zero within there = let same : prepared ≡ out.sub = cc in
          ap (λ (v : Votes). is_out_at (result_at v voter)) same ∙ out.out
      at (suc i) within there = absurd (omega (arith, within))

  -- a cancel by the carrying over
  carried_out : (prepared committed : Votes) (voter : ℕ)
      → (is_canceled (slice_get committed.marks voter) ≡ true
      → is_out_at (result_at prepared voter) ≡ true)
      → is_canceled (slice_get (without_all (out_of prepared) committed).marks voter) ≡ true
      → is_out_at (result_at prepared voter) ≡ true
  carried_out prepared committed voter before is =
      elim (only (prepared ∷ committed ∷ []) 1 voter committed
      (without_all (out_of prepared) committed) refl refl is) [
        | inl was ↦ before was
        | inr out ↦ out_in_front voter prepared (without_all (out_of prepared) committed) out
      ]

  module _ (voter : ℕ) (hash : Hash) where
    -- a vote in the prepared phase
    abbrev voted_first : Votes
    voted_first = after first (act.Cast voter hash)

    -- .. and in the committed phase
    abbrev voted_second : Votes
    voted_second = after second (act.Cast voter hash)

    -- what it leaves
    abbrev by_first : after_act subs (Cast voter hash)
        ≡ voted_first ∷ without_all (out_of voted_first) second ∷ []
        → HasGoneOn poll first second (after_act subs (Cast voter hash))
    by_first is = record {
      prepared = voted_first;
      committed = without_all (out_of voted_first) second;
      is = is;
      plain = record {
        chain = subst IsChain is (act_step (Cast voter hash) subs plain.chain).chain;
        prepared = fair_cast poll first voter hash plain.prepared;
        committed = fair_carried poll (out_of voted_first) second plain.committed;
        stands = λ other mark there. (let was = cancels_none first.marks voter other hash mark there in
            was.2 ∙ plain.stands other was.0 was.1);
        out = λ other canceled. carried_out voted_first second other
            (λ was. out_kept first voter other hash (slice_get first.marks other) refl
            (plain.out other was)) canceled;
      };
      in_prepared = votes_cast first voter hash;
      in_committed = votes_carried (out_of voted_first) second;
    }

    -- .. and one in the committed phase
    abbrev by_second : after_act subs (Cast voter hash)
        ≡ first ∷ without_all (out_of first) voted_second ∷ []
        → HasGoneOn poll first second (after_act subs (Cast voter hash))
    by_second is = record {
      prepared = first;
      committed = without_all (out_of first) voted_second;
      is = is;
      plain = record {
        chain = subst IsChain is (act_step (Cast voter hash) subs plain.chain).chain;
        prepared = plain.prepared;
        committed = fair_carried poll (out_of first) voted_second
            (fair_cast poll second voter hash plain.committed);
        stands = plain.stands;
        out = λ other canceled. carried_out first voted_second other
            (λ was. plain.out other (canceled_before second.marks voter other hash _ refl was))
            canceled;
      };
      in_prepared = λ other given has. has;
      in_committed = λ other given has. votes_carried (out_of first) voted_second other given
          (votes_cast second voter hash other given has);
    }

    -- .. and one of a voter that is done, which is not counted
    by_none : after_act subs (Cast voter hash) ≡ first ∷ without_all (out_of first) second ∷ []
        → HasGoneOn poll first second (after_act subs (Cast voter hash))
    by_none is = record {
      prepared = first;
      committed = without_all (out_of first) second;
      is = is;
      plain = record {
        chain = subst IsChain is (act_step (Cast voter hash) subs plain.chain).chain;
        prepared = plain.prepared;
        committed = fair_carried poll (out_of first) second plain.committed;
        stands = plain.stands;
        out = λ other canceled. carried_out first second other (plain.out other) canceled;
      };
      in_prepared = λ other given has. has;
      in_committed = votes_carried (out_of first) second;
    }

    -- in which phase it is counted
    in_first : committed_in voter first ≡ false → after_act subs (Cast voter hash)
        ≡ voted_first ∷ without_all (out_of voted_first) second ∷ []
    in_first untold = rw untold refl

    -- .. of who is told, and has no result there yet
    in_second : committed_in voter first ≡ true → committed_in voter second ≡ false
        → after_act subs (Cast voter hash)
        ≡ first ∷ without_all (out_of first) voted_second ∷ []
    in_second told new = rw (told, new) refl

    -- any cast
    pub goes_on : HasGoneOn poll first second (after_act subs (Cast voter hash))
    goes_on = elim (bool (committed_in voter first)) [
      | inr untold ↦ by_first (in_first untold)
      | inl told ↦ elim (bool (committed_in voter second)) [
        | inr new ↦ by_second (in_second told new)
        | inl done ↦ by_none (rw (told, done) refl)
      ]
    ]

  -- ---- a cast that is not refused

  -- it is counted in the phase
  pub record IsCounted (phase : Phase) (voter : ℕ) (hash : Hash) : Type 0 where
    pub goes : HasGoneOn poll first second (after_act subs (Cast voter hash))
    pub voted : HasVoted (in_phase phase goes.prepared goes.committed) voter hash

  -- in the prepared one
  pub counted_first : (voter : ℕ) (hash : Hash) → committed_in voter first ≡ false
      → cast_refusal first voter ≡ None → IsCounted Prepared voter hash
  counted_first voter hash untold counts = record {
    goes = by_first voter hash (in_first voter hash untold);
    voted = has_voted first voter hash counts;
  }

  -- .. or in the committed one
  pub counted_second : (voter : ℕ) (hash : Hash) → committed_in voter first ≡ true
      → committed_in voter second ≡ false → cast_refusal second voter ≡ None
      → IsCounted Committed voter hash
  counted_second voter hash told new counts = record {
    goes = by_second voter hash (in_second voter hash told new);
    voted = votes_carried (out_of first) (voted_second voter hash) voter hash
        (has_voted second voter hash counts);
  }

  -- ---- a quorum voted for one hash in both phases

  module _ (hash : Hash) (agree : ℕ → Bool)
      (quorum : poll.threshold ≤ weight_from agree 0 poll.weights)
      (prepared : (voter : ℕ) → voter < length poll.weights → agree voter ≡ true
      → HasVoted first voter hash)
      (committed : (voter : ℕ) → voter < length poll.weights → agree voter ≡ true
      → HasVoted second voter hash) where
    -- the vote that a mark shows
    shows : (votes : Votes) (voter : ℕ) (mark : Mark) → slice_get votes.marks voter ≡ Some mark
        → HasVoted votes voter hash → mark.vote ≡ Some hash
    shows votes voter mark there has =
        let same : has.mark ≡ mark = some_is has.mark mark (sym has.there ∙ there) in
        ap (λ (m : Mark). m.vote) (sym same) ∙ has.vote

    -- the prepared phase commits it
    pub first_commits : first.outcome ≡ outcome.Commit hash
    first_commits = commits_it poll hash agree first plain.chain.0 plain.prepared quorum
        (λ voter mark there agrees. record {
          stands = plain.stands voter mark there;
          vote = shows first voter mark there
              (prepared voter (plain.prepared.within voter mark there) agrees);
        })

    -- so none of those is out of it
    none_out : (voter : ℕ) → voter < length poll.weights → agree voter ≡ true
        → is_out_at (result_at first voter) ≡ false
    none_out voter within agrees = let has = prepared voter within agrees in
        rw has.there (rw (plain.stands voter has.mark has.there) (rw first_commits (rw has.vote
        (rw ((same_hash-Decides hash hash).1 refl) refl))))

    -- .. nor canceled in the committed phase
    none_canceled : (voter : ℕ) (mark : Mark) → slice_get second.marks voter ≡ Some mark
        → agree voter ≡ true → mark.canceled ≡ false
    none_canceled voter mark there agrees = elim (bool mark.canceled) [
      | inr fails ↦ fails
      | inl holds ↦ absurd (let z : false ≡ true =
          sym (none_out voter (plain.committed.within voter mark there) agrees)
          ∙ plain.out voter (ap is_canceled there ∙ holds) in cc)
    ]

    -- which commits it too
    pub second_commits : second.outcome ≡ outcome.Commit hash
    second_commits = commits_it poll hash agree second plain.chain.2.0 plain.committed quorum
        (λ voter mark there agrees. record {
          stands = none_canceled voter mark there agrees;
          vote = shows second voter mark there
              (committed voter (plain.committed.within voter mark there) agrees);
        })
