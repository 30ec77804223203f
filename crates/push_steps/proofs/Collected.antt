-- A member that asks for its result and is told to commit has its commit issued.
use Rattle.std.proofs.Common.{◌≡◌, ◌==◌, ℕ, zero, suc, List, [], ◌∷◌, Bool, true, false, Option, None, Some, refl, sym, ◌∙◌, ap, subst, inl, inr, slice_get}
use Rattle.std.specs.Option.{option_map}
use Rattle.px_base.specs.declared.hash.Hash.{Hash}
use Rattle.px_base.specs.declared.ids.TxId.{TxId}
use Rattle.txmanager.specs.Voting.{Voting, collect_answer, collect_answer_by, number_of}
use Rattle.voters.specs.Votes.{Votes}
use Rattle.px_cluster.specs.Casts.{is_committed_in, member_at, member_named}
use Rattle.px_cluster.specs.Cluster.{Cluster}
use Rattle.px_cluster.specs.Core.{Core, OpenPush, push_of, voting}
use Rattle.px_cluster.specs.Issues.{issues_commit, issues_commit_at, told_hash}
use Rattle.px_cluster.specs.Ledger as ledger
use Rattle.px_cluster.specs.Ledger.{Ledger, Purpose, with_commit, with_purposes}
use Rattle.px_cluster.specs.Numbers.{is_one_of, place_in}
use Rattle.px_cluster.specs.Pushes.{outcome_or_open}
use Rattle.cluster_form.specs.Turns.{AreDistinct, IsTurn}
use Rattle.cluster_form.specs.Within.{IsPushWithin}
use Rattle.cluster_form.proofs.Lists.{all_find, bool, choose, same_number, same_self, some_is}
use Rattle.replica_invariant.specs.Contents.{Vote}
use Rattle.replica_invariant.specs.Purposes as seen
use Rattle.replica_invariant.specs.Pushes.{CanIssue, issued}
use Rattle.replica_invariant.specs.State.{Replica, State, with_replica}
use Rattle.safe_states.specs.Happens.{Issues}
use Rattle.safe_states.proofs.Reached.{every_state_has_the_invariant}
use Rattle.cluster_history.specs.Goes.{GoesOn, IsSound}
use Rattle.cluster_history.specs.History.{Whole}
use Rattle.cluster_history.specs.Seen.{decided_hash, replica_of, seen_purpose, seen_push, seen_snapshot, seen_turn, state_of}
use Rattle.cluster_history.proofs.Effects.{nothing_goes}
use Rattle.cluster_history.proofs.Frame.{once_to, same_functions, same_replica, same_state}
use Rattle.cluster_history.proofs.OneRepository.{one_goes}
use Rattle.push_steps.specs.Steps.{CollectGoesOn}
use Rattle.push_steps.proofs.Leases.{purpose_changes, purpose_stays, purposes_elsewhere}
use Rattle.push_steps.proofs.Told.{IsTold, told_in}
use Rattle.push_steps.proofs.Turns.{has_turn, looks_so, turn_is, turn_with}

-- ---- members and voters

-- what stands at a place is one of them, and is found there, where each stands once
place_is : (members : List ℕ) (voter storage : ℕ) → AreDistinct members
    → slice_get members voter ≡ Some storage
    → (is_one_of storage members ≡ true) × (place_in members storage ≡ Some voter)
place_is [] voter storage distinct is = absurd (let none : None ≡ Some storage = is in cc)
place_is (m ∷ ms) zero storage distinct is = let same = some_is m storage is in
    subst (λ s. (is_one_of s (m ∷ ms) ≡ true) × (place_in (m ∷ ms) s ≡ Some zero)) same
    (rw (same_self m) refl, rw (same_self m) refl)
place_is (m ∷ ms) (suc voter) storage distinct is =
    let rest = place_is ms voter storage distinct.1 is in
    elim (bool (m == storage)) [
      | inl here ↦ absurd (let same = sym (same_number m storage here) in
          let z : true ≡ false = sym rest.0 ∙ ap (λ s. is_one_of s ms) same ∙ distinct.0 in cc)
      | inr fails ↦ (rw fails rest.0, rw fails (ap (option_map suc) rest.1))
    ]

-- ---- a purpose that is seen as a push

-- it is that of a push
is_push : (level : ℕ) (purpose : Purpose) (begun : ℕ) (commit : Option Hash) (answered : Bool)
    → seen_purpose level purpose ≡ seen.Pushing begun commit answered
    → purpose ≡ ledger.Pushing begun commit answered
is_push level (ledger.Pushing b c a) begun commit answered is =
    (let z : seen.Pushing b c a ≡ seen.Pushing begun commit answered = is in cc)
is_push level ledger.Unused begun commit answered is =
    absurd (let z : seen.Unused ≡ seen.Pushing begun commit answered = is in cc)
is_push level (ledger.Creation made) begun commit answered is =
    absurd (let z : seen.Creation made ≡ seen.Pushing begun commit answered = is in cc)
is_push level (ledger.Updating job source generation kept before) begun commit answered is =
    absurd (let z : seen.Updating source generation (seen_snapshot level kept) before
    ≡ seen.Pushing begun commit answered = is in cc)
is_push level (ledger.Deleting job before) begun commit answered is =
    absurd (let z : seen.Deleting before ≡ seen.Pushing begun commit answered = is in cc)
is_push level (ledger.Fencing last) begun commit answered is =
    absurd (let z : seen.Fencing last ≡ seen.Pushing begun commit answered = is in cc)

-- ---- a commit is issued to a member

module _ (whole : Whole) (push : OpenPush) (vote : Voting) (sound : IsSound whole)
    (pushed : push_of whole.cluster.core push.tx ≡ Some push)
    (there : voting whole.cluster.core push.tx ≡ Some vote) where
  abbrev core : Core
  core = whole.cluster.core

  -- what is left of a cluster whose ledger changed
  abbrev Goal : Cluster → Type 0
  Goal cluster = GoesOn whole (record whole { cluster = record cluster { core = core } })

  -- the push has the turn of its repository, with a vote of its members
  turn : IsTurn core.storages core.transactions core.last_tx push
  turn = turn_is core push.repo push sound.form.core.turns
      (has_turn push.tx.0 core.pushes push sound.form.core.turns.order pushed)

  -- its repository is on record
  within : IsPushWithin core.repositories push
  within = (all_find (IsPushWithin core.repositories) (λ (p : OpenPush). p.tx.0 == push.tx.0)
      core.pushes push sound.form.core.within.pushes pushed).0

  abbrev st : State
  st = state_of whole push.repo within.book

  -- and it is seen there
  seen_turn_is : st.turn ≡ Some (seen_push push vote)
  seen_turn_is = ap (seen_turn core)
      (has_turn push.tx.0 core.pushes push sound.form.core.turns.order pushed)
      ∙ ap (turn_with push) there

  module _ (voter storage : ℕ) (hash : Hash) (votes : Votes)
      (first : slice_get vote.subs 0 ≡ Some votes)
      (at : slice_get push.members voter ≡ Some storage) (told : IsTold votes voter hash) where
    abbrev new : Whole
    new = record whole {
      cluster = record (issues_commit_at whole.cluster push (Some storage) (Some hash)) {
        core = core;
      };
    }

    -- the voter is a member
    place : (is_one_of storage push.members ≡ true) × (place_in push.members storage ≡ Some voter)
    place = place_is push.members voter storage turn.distinct at

    -- that is told
    is_told_so : (seen_push push vote).told storage ≡ true
    is_told_so = ap (λ o. is_committed_in o (slice_get vote.subs 0)) place.1
        ∙ ap (is_committed_in (Some voter)) first ∙ told.committed

    -- the hash of the decision
    decided_so : (seen_push push vote).decided ≡ Some hash
    decided_so = ap (λ (o : Option Votes). decided_hash (outcome_or_open
        (option_map (λ (v : Votes). v.outcome) o))) first
        ∙ ap decided_hash told.decided

    -- the lease of the push was drawn for it
    drawn_for_it : (before : Option Vote) × (answered : Bool)
        × ((st.replica storage).purpose push.lease ≡ seen.Pushing push.begun before answered)
    drawn_for_it = (((every_state_has_the_invariant st
        (sound.reached push.repo within.book within.there)).turn (seen_push push vote)
        seen_turn_is).member storage place.0).purpose

    -- so the commit may be issued to it
    can : CanIssue st (seen_push push vote) storage hash drawn_for_it.0 drawn_for_it.1
    can = record {
      turn = seen_turn_is;
      decided = decided_so;
      told = is_told_so;
      purpose = drawn_for_it.2;
    }

    abbrev now : Replica
    now = issued (st.replica storage) push.lease
        (seen.Pushing push.begun (Some hash) drawn_for_it.1)

    -- the lease has a commit of that hash from now on
    with_hash : (level : ℕ)
        → seen_purpose level (with_commit hash (whole.cluster.ledger push.repo storage push.lease))
        ≡ seen.Pushing push.begun (Some hash) drawn_for_it.1
    with_hash level = ap (λ p. seen_purpose level (with_commit hash p))
        (is_push (whole.history.read_at push.repo storage push.lease)
        (whole.cluster.ledger push.repo storage push.lease) push.begun drawn_for_it.0 drawn_for_it.1
        drawn_for_it.2)

    -- the replica of the member
    replica_in : (s : ℕ) → (s == storage) ≡ true
        → replica_of new push.repo within.book s ≡ now
    replica_in s is = subst (λ x. replica_of new push.repo within.book x ≡ now)
        (sym (same_number s storage is))
        (same_replica _ _ refl refl refl refl refl refl
        (same_functions _ _ (purpose_changes whole.cluster.ledger push.repo (λ x. x == storage)
        push.lease (λ x purpose. with_commit hash purpose)
        (whole.history.read_at push.repo storage) storage
        (seen.Pushing push.begun (Some hash) drawn_for_it.1) (same_self storage) with_hash)) refl)

    -- any other replica
    replica_out : (s : ℕ) → (s == storage) ≡ false
        → replica_of new push.repo within.book s ≡ st.replica s
    replica_out s other = same_replica _ _ refl refl refl refl refl refl
        (same_functions _ _ (λ l. purpose_stays whole.cluster.ledger push.repo
        (λ x. x == storage) push.lease (λ x purpose. with_commit hash purpose)
        (whole.history.read_at push.repo s) s l other)) refl

    -- so the repository is seen as one where the commit was issued
    here : state_of new push.repo within.book ≡ with_replica st storage now
    here = same_state _ _ refl refl refl (same_functions _ _ (λ s.
        choose (λ r. replica_of new push.repo within.book s ≡ r) (s == storage) now (st.replica s)
        (replica_in s) (replica_out s))) refl

    -- and no other repository looks otherwise
    issued_goes : GoesOn whole new
    issued_goes = one_goes whole new refl push.repo within.book within.there
        (λ other b differs is. looks_so whole core new.cluster.ledger new.cluster.pushed other b
        (purposes_elsewhere whole.cluster.ledger push.repo (λ x. x == storage) push.lease
        (λ x purpose. with_commit hash purpose) other differs) refl)
        (once_to st (with_replica st storage now) (state_of new push.repo within.book) here
        (Issues st (seen_push push vote) storage hash drawn_for_it.0 drawn_for_it.1 can))

  -- ---- where a member is told

  -- by what its voter is told
  by_hash : (name : List ℕ) (voter : ℕ) (storage : Option ℕ) (hash : Option Hash)
      → slice_get push.members voter ≡ storage
      → told_hash (collect_answer_by name 1 vote (Some voter)) ≡ hash
      → Goal (issues_commit_at whole.cluster push storage hash)
  by_hash name voter None hash at is = nothing_goes whole
  by_hash name voter (Some storage) None at is = nothing_goes whole
  by_hash name voter (Some storage) (Some hash) at is =
      let told = told_in name 1 voter hash (slice_get vote.subs 0) is in
      issued_goes voter storage hash told.0 told.1 at told.2

  -- by the voter of the name
  by_voter : (name : List ℕ) (voter : Option ℕ)
      → Goal (issues_commit_at whole.cluster push (member_at push.members voter)
      (told_hash (collect_answer_by name 1 vote voter)))
  by_voter name None = nothing_goes whole
  by_voter name (Some voter) = by_hash name voter (slice_get push.members voter)
      (told_hash (collect_answer_by name 1 vote (Some voter))) refl refl

  -- only the prepared phase tells a member to commit
  by_phase : (name : List ℕ) (sub : ℕ)
      → Goal (issues_commit whole.cluster name sub (Some push) (Some vote))
  by_phase name sub = choose Goal (sub == 1)
      (issues_commit_at whole.cluster push (member_named push vote name)
      (told_hash (collect_answer name sub vote))) whole.cluster
      (λ first. subst (λ n. Goal (issues_commit_at whole.cluster push (member_named push vote name)
      (told_hash (collect_answer name n vote)))) (sym (same_number sub 1 first))
      (by_voter name (number_of name vote)))
      (λ later. nothing_goes whole)

-- of a transaction that is no push nothing is issued
by_push : (whole : Whole) (tx : TxId) (name : List ℕ) (sub : ℕ) (push : Option OpenPush)
    (vote : Option Voting) → IsSound whole → push_of whole.cluster.core tx ≡ push
    → voting whole.cluster.core tx ≡ vote → GoesOn whole (record whole {
      cluster = record (issues_commit whole.cluster name sub push vote) {
        core = whole.cluster.core;
      };
    })
by_push whole tx name sub None vote sound pushed there = nothing_goes whole
by_push whole tx name sub (Some push) None sound pushed there = nothing_goes whole
by_push whole tx name sub (Some push) (Some vote) sound pushed there =
    let number = (all_find (IsPushWithin whole.cluster.core.repositories)
    (λ (p : OpenPush). p.tx.0 == tx.0) whole.cluster.core.pushes push
    sound.form.core.within.pushes pushed).1 in
    let same : push.tx ≡ tx = ap (λ n. let z : TxId = record { 0 = n } in z)
    (same_number push.tx.0 tx.0 number) in
    by_phase whole push vote sound (ap (push_of whole.cluster.core) same ∙ pushed)
    (ap (voting whole.cluster.core) same ∙ there) name sub

pub collect_goes : CollectGoesOn
collect_goes tx name sub whole sound none = by_push whole tx name sub
    (push_of whole.cluster.core tx) (voting whole.cluster.core tx) sound refl refl
