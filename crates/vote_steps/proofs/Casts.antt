-- A cast, whatever it is: of a push or of none, in either phase.
use Rattle.std.proofs.Common.{◌≡◌, ◌⊎◌, ℕ, not, List, [], ◌∷◌, Bool, true, false, Option, None, Some, refl, sym, ◌∙◌, ap, subst, inl, inr, length, slice_get}
use Rattle.std.specs.Option.{option_or}
use Rattle.px_base.specs.declared.hash.Hash.{Hash}
use Rattle.px_base.specs.declared.ids.TxId.{TxId}
use Rattle.px_base.specs.declared.phase.Phase.{Phase}
use Rattle.px_base.specs.declared.phase.Phase.TheVariants.{Prepared, Committed}
use Rattle.px_base.specs.declared.voter.Voter.{Voter}
use Rattle.px_ops.specs.declared.op.Op.TheVariants as op
use Rattle.px_ops.specs.declared.refusal.Refusal.{Refusal}
use Rattle.px_ops.specs.declared.refusal.Refusal.TheVariants as refusal
use Rattle.txmanager.specs.Registry.{with_transaction}
use Rattle.txmanager.specs.Rounds.{Cast, after_act}
use Rattle.txmanager.specs.VoterCalls.{after_cast, cast_answer}
use Rattle.txmanager.specs.Voting.{Voting}
use Rattle.voters.specs.Votes.{Votes, after}
use Rattle.voters.specs.declared.act.Act.TheVariants as act
use Rattle.px_cluster.specs.Acknowledged.{commit_answered, event_refusal, has_committed, is_answered}
use Rattle.px_cluster.specs.Book.{Repository}
use Rattle.px_cluster.specs.Casts.{booked_by, booked_by_commit, booked_by_outcomes, cast_on, member_at, member_named, with_cast_booked}
use Rattle.px_cluster.specs.Core.{Core, OpenPush, push_of, repository, turn_of, voting, with_repository, with_repository_by}
use Rattle.px_cluster.specs.Ledger.{is_committed}
use Rattle.px_cluster.specs.Ops.{refusal_of}
use Rattle.px_cluster.specs.Pushes.{prepared_outcome}
use Rattle.px_cluster.specs.Refusals.{cause}
use Rattle.cluster_form.proofs.Induction.{first_none}
use Rattle.cluster_form.proofs.Lists.{some_is}
use Rattle.cluster_history.specs.Goes.{GoesOn, IsSound}
use Rattle.cluster_history.specs.History.{History, Whole}
use Rattle.cluster_history.specs.Remembered.{by_commit_vote, by_outcomes, by_vote, if_known}
use Rattle.vote_steps.specs.Steps.{CastGoesOn}
use Rattle.vote_steps.proofs.Accepted.{asked_at, two_of}
use Rattle.vote_steps.proofs.Committed.{committed_goes}
use Rattle.vote_steps.proofs.CommittedCast.{CommittedCast}
use Rattle.vote_steps.proofs.Counted.{IsCounted, IsInFirst, IsInSecond, cast_first, cast_second, counted, in_either}
use Rattle.vote_steps.proofs.Prepared.{prepared_goes}
use Rattle.vote_steps.proofs.PreparedCast.{PreparedCast}
use Rattle.vote_steps.proofs.SameVotes.{found_unmarked, unseen_goes}
use Rattle.vote_steps.proofs.Turns.{IsOpen, push_is}

-- ---- the answer of the node

-- where neither of two causes is there, the second is not
second_none : {A : Type 0} (first later : Option A) → option_or first later ≡ None → later ≡ None
second_none None later is = is
second_none (Some x) later is = absurd (let z : Some x ≡ None = is in cc)

-- a cause that is not there
holds_so : (holds : Bool) (why : Refusal) → cause (not holds) why ≡ None → holds ≡ true
holds_so true why is = refl
holds_so false why is = absurd (let z : Some why ≡ None = is in cc)

-- a cast in the committed phase of a push waits for the answer of its node
abbrev IsHeard : Whole → List ℕ → Phase → Option OpenPush → Voting → Type 0
IsHeard old name phase push vote = phase ≡ Committed
    → commit_answered old.cluster name push (Some vote) ≡ true

-- so it was heard, as nothing refuses the cast
heard : (old : Whole) (tx : TxId) (name : List ℕ) (phase : Phase) (hash : Hash) (vote : Voting)
    → voting old.cluster.core tx ≡ Some vote
    → event_refusal old.cluster (op.Cast tx name phase hash) ≡ None
    → IsHeard old name phase (push_of old.cluster.core tx) vote
heard old tx name Prepared hash vote there none is =
    absurd (let z : Prepared ≡ Committed = is in cc)
heard old tx name Committed hash vote there none is =
    ap (commit_answered old.cluster name (push_of old.cluster.core tx)) (sym there)
    ∙ holds_so (is_answered old.cluster (op.Cast tx name Committed hash)) refusal.NotAcked
    (second_none (refusal_of old.cluster.core (op.Cast tx name Committed hash)) _ none)

-- ---- what is left, by the push and its repository

-- the core with other votes of a transaction
abbrev with_votes : Core → TxId → Voting → Core
with_votes core tx now =
    record core { transactions = with_transaction core.transactions tx (Some now) }

module _ (old : Whole) (name : List ℕ) (phase : Phase) (hash : Hash) where
  -- what is remembered of a cast
  abbrev remembered_in : OpenPush → Voting → Option Repository → History
  remembered_in push vote book =
      if_known old.history book (λ b. by_vote old.history push b name phase hash vote)

  -- what it leaves
  abbrev left : TxId → OpenPush → Voting → Voting → Option Repository → Whole
  left tx push vote now book = record {
    cluster = record old.cluster {
      core = with_repository_by book push.repo (booked_by push name phase hash vote now)
          (with_votes old.cluster.core tx now);
    };
    history = remembered_in push vote book;
  }

-- ---- it is one of a push

module _ (old : Whole) (sound : IsSound old) (push : OpenPush)
    (is_open : IsOpen old.cluster.core push) (name : List ℕ) (hash : Hash) (voters : List Voter)
    (i : ℕ) where
  abbrev core : Core
  core = old.cluster.core

  abbrev by : List Votes → Voting
  by subs = record { voters = voters; subs = subs }

  -- what is to be shown of a cast by this voter
  abbrev Goes : Phase → List Votes → Type 0
  Goes phase subs = voting core push.tx ≡ Some (by subs)
      → (is : IsCounted name phase hash (by subs)) → is.voter ≡ i
      → IsHeard old name phase (Some push) (by subs)
      → GoesOn old (left old name phase hash push.tx push (by subs)
      (after_cast name phase hash (by subs)) (Some is_open.book))

  module _ (first second : Votes) where
    abbrev vote : Voting
    vote = by (first ∷ second ∷ [])

    -- the voter's storage
    storage_is : (phase : Phase) → (is : IsCounted name phase hash vote) → is.voter ≡ i
        → slice_get push.members i ≡ member_named push vote name
    storage_is phase is same =
        ap (slice_get push.members) (sym same) ∙ sym (ap (member_at push.members) is.number)

    -- the new votes
    now_is : (phase : Phase) → (is : IsCounted name phase hash vote) → is.voter ≡ i
        → after_cast name phase hash vote ≡ by (after_act (first ∷ second ∷ []) (Cast i hash))
    now_is phase is same =
        is.leaves ∙ ap (λ n. by (after_act (first ∷ second ∷ []) (Cast n hash))) same

    -- in the prepared phase
    in_first : IsInFirst Prepared first i → Goes Prepared (first ∷ second ∷ [])
    in_first here there is same heard_ = subst (λ (now : Voting). GoesOn old (record {
      cluster = record old.cluster {
        core = with_repository push.repo (booked_by_outcomes push now (member_named push vote name)
            first.outcome (prepared_outcome now) is_open.book)
            (with_votes core push.tx now);
      };
      history = by_outcomes old.history push is_open.book.newest first.outcome
          (prepared_outcome now);
    })) (sym (now_is Prepared is same ∙ ap by (cast_first first second i hash here.untold)))
        (prepared_goes old sound cast (member_named push vote name) first.outcome
        (after first (act.Cast i hash)).outcome (storage_is Prepared is same) refl refl)
      where
        cast : PreparedCast core
        cast = record {
          push = push;
          is_open = is_open;
          voters = voters;
          first = first;
          second = second;
          there = there;
          voter = i;
          hash = hash;
          untold = here.untold;
        }

    -- the node of the storage has answered
    answers : (storage : Option ℕ) → has_committed old.cluster push storage ≡ true → (v : ℕ)
        → storage ≡ Some v → is_committed (old.cluster.ledger push.repo v push.lease) ≡ true
    answers None is v same = absurd (let z : None ≡ Some v = same in cc)
    answers (Some storage) is v same = subst
        (λ s. is_committed (old.cluster.ledger push.repo s push.lease) ≡ true)
        (some_is storage v same) is

    -- .. and in the committed one
    in_second : IsInSecond Committed first second i → Goes Committed (first ∷ second ∷ [])
    in_second here there is same heard_ = subst (λ (now : Voting). GoesOn old (record {
      cluster = record old.cluster {
        core = with_repository push.repo (booked_by_commit push (member_named push vote name) hash
            first.outcome is_open.book) (with_votes core push.tx now);
      };
      history = by_commit_vote old.history push is_open.book (member_named push vote name) hash
          first.outcome;
    })) (sym (now_is Committed is same
        ∙ ap by (cast_second first second i hash here.told here.new)))
        (committed_goes old sound cast (member_named push vote name) first.outcome refl
        (storage_is Committed is same) (answers (member_named push vote name) (heard_ refl)))
      where
        cast : CommittedCast core
        cast = record {
          push = push;
          is_open = is_open;
          voters = voters;
          first = first;
          second = second;
          there = there;
          voter = i;
          hash = hash;
          told = here.told;
          counts = here.counts;
        }

    -- the phase is the one that is due
    in_phase : (phase : Phase) → IsInFirst phase first i ⊎ IsInSecond phase first second i
        → Goes phase (first ∷ second ∷ [])
    in_phase Prepared (inl here) = in_first here
    in_phase Committed (inl here) = absurd (let z : Committed ≡ Prepared = here.phase_ in cc)
    in_phase Prepared (inr here) = absurd (let z : Prepared ≡ Committed = here.phase_ in cc)
    in_phase Committed (inr here) = in_second here

    -- whichever phase is due
    in_two : (phase : Phase) → Goes phase (first ∷ second ∷ [])
    in_two phase there is same heard_ = in_phase phase (subst
        (λ n. IsInFirst phase first n ⊎ IsInSecond phase first second n) same
        (in_either name phase hash first second is.voter is.accepted)) there is same heard_

  -- a push has two subtransactions
  of_push : (phase : Phase) (subs : List Votes) → length subs ≡ 2 → Goes phase subs
  of_push phase subs two =
      let parts = two_of subs two in
      subst (Goes phase) (sym parts.2) (in_two parts.0 parts.1 phase)

-- ---- any cast

module _ (old : Whole) (sound : IsSound old) (name : List ℕ) (phase : Phase) (hash : Hash) where
  -- its repository is on record
  known_push : (push : OpenPush) (vote : Voting) → IsOpen old.cluster.core push
      → voting old.cluster.core push.tx ≡ Some vote → IsCounted name phase hash vote
      → IsHeard old name phase (Some push) vote
      → GoesOn old (left old name phase hash push.tx push vote (after_cast name phase hash vote)
      (repository old.cluster.core push.repo))
  known_push push vote is_open there is heard_ =
      let same : is_open.vote ≡ vote = some_is is_open.vote vote
      (sym is_open.registered ∙ there) in
      subst (λ b. GoesOn old (left old name phase hash push.tx push vote
      (after_cast name phase hash vote) b)) (sym is_open.known)
      (of_push old sound push is_open name hash vote.voters is.voter phase vote.subs
      (ap (λ (v : Voting). length v.subs) (sym same) ∙ is_open.sound.phases) there is refl heard_)

  -- what a cast leaves, of a push or of none
  abbrev then_ : TxId → Option OpenPush → Voting → Whole
  then_ tx push vote = record {
    cluster = record old.cluster {
      core = with_cast_booked push name phase hash vote (after_cast name phase hash vote)
          (with_votes old.cluster.core tx (after_cast name phase hash vote));
    };
    history = if_known old.history push (λ p.
        remembered_in old name phase hash p vote (repository old.cluster.core p.repo));
  }

  -- of a transaction that is no push nothing is booked
  by_push : (tx : TxId) (vote : Voting) (push : Option OpenPush)
      → push_of old.cluster.core tx ≡ push → voting old.cluster.core tx ≡ Some vote
      → IsCounted name phase hash vote → IsHeard old name phase push vote
      → GoesOn old (then_ tx push vote)
  by_push tx vote None named there is heard_ = unseen_goes old sound.form tx vote
      (after_cast name phase hash vote) there
      (λ push found. absurd (let z : None ≡ Some push = sym named ∙ found in cc)) (λ push. push)
      (record { tx = λ push. refl; repo = λ push. refl; seen = λ push v. refl })
      old.cluster.core.pushes (λ repo. found_unmarked (turn_of old.cluster.core repo))
  by_push tx vote (Some push) named there is heard_ =
      let found = push_is old.cluster.core sound.form.core tx push named in
      subst (λ t. voting old.cluster.core t ≡ Some vote → GoesOn old (then_ t (Some push) vote))
      found.0 (λ at. known_push push vote found.1 at is heard_) there

-- any cast
pub a_cast_goes_on : CastGoesOn
a_cast_goes_on tx name phase hash old sound none =
    let asked = asked_at old.cluster.core tx (cast_answer name phase hash) (first_none _ _ none) in
    subst (λ (v : Option Voting). GoesOn old (record {
      cluster = record old.cluster { core = cast_on tx name phase hash v old.cluster.core };
      history = if_known old.history (push_of old.cluster.core tx) (λ push.
          if_known old.history v (λ vote.
          remembered_in old name phase hash push vote (repository old.cluster.core push.repo)));
    })) (sym asked.there) (by_push old sound name phase hash tx asked.vote
    (push_of old.cluster.core tx) refl asked.there
    (counted name phase hash asked.vote asked.accepted)
    (heard old tx name phase hash asked.vote asked.there none))
