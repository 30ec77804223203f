-- A push that begins is that to its repository, and nothing to any other one.
use Rattle.std.proofs.Common.{◌≡◌, ◌==◌, ℕ, List, [], ◌∷◌, Bool, true, false, if◌then◌else◌, is_some, zero, suc, Option, None, Some, refl, sym, ◌∙◌, ap, inl, inr, find, length, map, slice_get}
use Rattle.std.specs.Option.{option_map, option_or}
use Rattle.std.proofs.lemmas.List.Folds.{find-append}
use Rattle.txmanager.specs.Voting.{Voting, voting_on}
use Rattle.voters.specs.Results.{committed_in, has_vote}
use Rattle.voters.specs.Votes.{Poll, blank, start}
use Rattle.voters.specs.declared.outcome.Outcome.TheVariants as outcome
use Rattle.voters.proofs.KeepLemmas.{committed-parts}
use Rattle.px_cluster.specs.Book.{Replica, Repository, booking_in, drawn_for, is_assigned_in, kept_in, kept_on, replica_on}
use Rattle.px_cluster.specs.Casts.{is_committed_in}
use Rattle.px_cluster.specs.Core.{Core, OpenPush, repository, turn_of}
use Rattle.px_cluster.specs.Issues.{issues_begin}
use Rattle.px_cluster.specs.Ledger as ledger
use Rattle.px_cluster.specs.Ledger.{Purpose}
use Rattle.px_cluster.specs.Members.{hosts, panel_of}
use Rattle.px_cluster.specs.Numbers.{is_one_of, place_in}
use Rattle.px_cluster.specs.Pushes.{begin_refusal, beginning, begun_at, drawn_for_members, drawn_if_member, read_only, turn_taken}
use Rattle.cluster_form.specs.Books.{IsDense}
use Rattle.cluster_form.proofs.Induction.{first_none}
use Rattle.cluster_form.proofs.Lists.{all_got, bool, choose, if_kept, same_number, same_self}
use Rattle.cluster_form.proofs.Panels.{members_some}
use Rattle.cluster_form.proofs.Registries.{found_registered}
use Rattle.cluster_form.proofs.TurnsKept.{first_holds, no_turn, not_caused}
use Rattle.replica_invariant.specs.Creations.{drawn}
use Rattle.replica_invariant.specs.Purposes.{Pushing}
use Rattle.replica_invariant.specs.Pushes.{CanBegin, begun}
use Rattle.replica_invariant.specs.State as seen
use Rattle.replica_invariant.specs.State.{State}
use Rattle.safe_states.specs.Happens.{Begins}
use Rattle.cluster_history.specs.Goes.{GoesOn, IsSound}
use Rattle.cluster_history.specs.History.{Whole}
use Rattle.cluster_history.specs.Seen.{has_voted_in, node_if, replica_of, seen_booking, seen_push, seen_turn, state_of}
use Rattle.cluster_history.proofs.Books.{each_changed, found_on}
use Rattle.cluster_history.proofs.Frame.{LooksSame, once_to, same_functions, same_push, same_replica, same_state}
use Rattle.cluster_history.proofs.OneRepository.{book_goes}
use Rattle.push_steps.specs.Steps.{BeginGoesOn}
use Rattle.push_steps.proofs.Leases.{purpose_changes, purpose_stays, purposes_elsewhere}
use Rattle.push_steps.proofs.Members.{IsMember, is_member, some_one}
use Rattle.push_steps.proofs.Turns.{looks_so, seen_later, turn_with}

-- ---- before any act

-- nobody is told to commit
not_committed : (poll : Poll) (voter : ℕ) → committed_in voter (start poll) ≡ false
not_committed poll voter = elim (bool (committed_in voter (start poll))) [
  | inl holds ↦ (let parts = committed-parts voter (start poll) holds in
      absurd (let z : outcome.Open ≡ outcome.Commit parts.hash = parts.outcome in cc))
  | inr fails ↦ fails
]

-- and nobody has voted
no_vote_yet : (weights : List ℕ) (voter : ℕ)
    → has_vote (slice_get (map blank weights) voter) ≡ false
no_vote_yet [] voter = refl
no_vote_yet (w ∷ ws) zero = refl
no_vote_yet (w ∷ ws) (suc voter) = no_vote_yet ws voter

-- .. where there is such a voter
told_none : (voter : Option ℕ) (poll : Poll) → is_committed_in voter (Some (start poll)) ≡ false
told_none None poll = refl
told_none (Some voter) poll = not_committed poll voter

cast_none : (voter : Option ℕ) (poll : Poll) → has_voted_in voter (Some (start poll)) ≡ false
cast_none None poll = refl
cast_none (Some voter) poll = no_vote_yet poll.weights voter

-- ---- a push that begins

module _ (whole : Whole) (repo : ℕ) (book : Repository) (sound : IsSound whole)
    (known : repository whole.cluster.core repo ≡ Some book)
    (none : begin_refusal whole.cluster.core repo (Some book) ≡ None) where
  abbrev core : Core
  core = whole.cluster.core

  abbrev push : OpenPush
  push = beginning core repo book

  abbrev new : Whole
  new = record whole {
    cluster = record (issues_begin whole.cluster repo (Some book)) {
      core = begun_at repo (Some book) core;
    };
  }

  abbrev now : Repository
  now = drawn_for_members push book

  abbrev takes_part : ℕ → Bool
  takes_part storage = is_one_of storage push.members

  abbrev st : State
  st = state_of whole repo book

  dense : IsDense core.storages book
  dense = all_got (IsDense core.storages) core.repositories repo book sound.form.core.books.dense
      known

  -- ---- it may begin

  -- no push has the turn
  free : turn_of core repo ≡ None
  free = no_turn (turn_of core repo) (first_holds (turn_taken (turn_of core repo)) _ none).0

  -- a member has a replica, which is assigned and at newest
  member : (storage : ℕ) → takes_part storage ≡ true → IsMember book storage
  member = is_member core book dense

  can : CanBegin st takes_part
  can = record {
    turn = ap (seen_turn core) free;
    some = some_one push.members (members_some core book dense
        (not_caused (length (hosts core book) == 0) _ (first_holds (read_only core book) _
        (first_holds (turn_taken (turn_of core repo)) _ none).1).0));
    assigned = λ storage is. (member storage is).assigned;
    current = λ storage is. (member storage is).current;
  }

  -- ---- its replicas

  -- each is as it was, but for the lease that is drawn for members
  changed : (storage : ℕ) → replica_on now storage
      ≡ option_map (drawn_if_member push) (replica_on book storage)
  changed storage = each_changed (drawn_if_member push)
      (λ replica. if_kept (λ (r : Replica). r.storage) (is_one_of replica.storage push.members)
      (drawn_for push.lease replica) replica refl) book storage

  -- it is drawn for the replica of a member
  drawn_there : (storage : ℕ) (replica : Replica) → replica_on book storage ≡ Some replica
      → (part : Bool) → takes_part storage ≡ part
      → replica_on now storage ≡ Some (if part then drawn_for push.lease replica else replica)
  drawn_there storage replica there part is = changed storage
      ∙ ap (option_map (drawn_if_member push)) there
      ∙ ap (λ n. let z : Option Replica = Some (if is_one_of n push.members
      then drawn_for push.lease replica else replica) in z)
      (found_on storage book.replicas replica there)
      ∙ ap (λ (b : Bool). let z : Option Replica = Some (if b
      then drawn_for push.lease replica else replica) in z) is

  -- and for no other one
  stays_there : (storage : ℕ) → takes_part storage ≡ false → (there : Option Replica)
      → replica_on book storage ≡ there → replica_on now storage ≡ replica_on book storage
  stays_there storage out None there =
      changed storage ∙ ap (option_map (drawn_if_member push)) there ∙ sym there
  stays_there storage out (Some replica) there =
      drawn_there storage replica there false out ∙ sym there

  out_same : (storage : ℕ) → takes_part storage ≡ false
      → replica_on now storage ≡ replica_on book storage
  out_same storage out = stays_there storage out (replica_on book storage) refl

  -- what is not read of the lease is as it was
  module _ (P : Type 0) (read : Option Replica → P)
      (on : (replica : Replica) (lease : ℕ)
      → read (Some (drawn_for lease replica)) ≡ read (Some replica)) where
    read_same : (storage : ℕ) → read (replica_on now storage) ≡ read (replica_on book storage)
    read_same storage = elim (bool (takes_part storage)) [
      | inl part ↦ (let is = member storage part in
          ap read (drawn_there storage is.replica is.there true part) ∙ on is.replica push.lease
          ∙ sym (ap read is.there))
      | inr out ↦ ap read (out_same storage out)
    ]

  -- the lease is kept for a member
  kept_now : (storage : ℕ) → takes_part storage ≡ true → kept_on now storage ≡ push.lease
  kept_now storage part = let is = member storage part in
      ap kept_in (drawn_there storage is.replica is.there true part)

  -- the replica of a member
  replica_in : (storage : ℕ) → takes_part storage ≡ true → replica_of new repo now storage
      ≡ drawn (st.replica storage) push.lease (Pushing book.newest None false)
  replica_in storage part = same_replica _ _ (kept_now storage part)
      (read_same _ (λ o. seen_booking (booking_in o)) (λ r lease. refl) storage) refl
      (read_same _ (λ o. node_if (is_some o) (whole.cluster.node storage book.path))
      (λ r lease. refl) storage) refl refl
      (same_functions _ _ (purpose_changes whole.cluster.ledger repo takes_part push.lease
      (λ s old. ledger.Pushing push.begun None false) (whole.history.read_at repo storage) storage
      (Pushing book.newest None false) part (λ level. refl))) refl

  -- any other replica
  replica_out : (storage : ℕ) → takes_part storage ≡ false
      → replica_of new repo now storage ≡ st.replica storage
  replica_out storage out = same_replica _ _ (ap kept_in (out_same storage out))
      (read_same _ (λ o. seen_booking (booking_in o)) (λ r lease. refl) storage) refl
      (read_same _ (λ o. node_if (is_some o) (whole.cluster.node storage book.path))
      (λ r lease. refl) storage) refl refl
      (same_functions _ _ (λ l. purpose_stays whole.cluster.ledger repo takes_part push.lease
      (λ s old. ledger.Pushing push.begun None false) (whole.history.read_at repo storage) storage l
      out)) refl

  -- each replica
  replicas : (storage : ℕ) → replica_of new repo now storage ≡ (begun st takes_part).replica storage
  replicas storage = choose (λ r. replica_of new repo now storage ≡ r) (takes_part storage)
      (drawn (st.replica storage) push.lease (Pushing book.newest None false)) (st.replica storage)
      (replica_in storage) (replica_out storage)

  -- ---- its turn

  abbrev vote : Voting
  vote = voting_on (panel_of core push.members) 1

  -- it has the turn
  takes_turn : turn_of new.cluster.core repo ≡ Some push
  takes_turn = find-append (λ (p : OpenPush). p.repo == repo) core.pushes (push ∷ [])
      ∙ ap (λ o. option_or o (find (λ (p : OpenPush). p.repo == repo) (push ∷ []))) free
      ∙ rw (same_self repo) refl

  -- with a vote on which nobody has acted
  turn : seen_turn new.cluster.core (turn_of new.cluster.core repo) ≡ (begun st takes_part).turn
  turn = ap (seen_turn new.cluster.core) takes_turn
      ∙ ap (turn_with push) (found_registered core.last_tx core.transactions
      sound.form.core.turns.numbers push.tx refl vote)
      ∙ ap (λ (p : seen.OpenPush). let z : Option seen.OpenPush = Some p in z)
      (same_push (seen_push push vote) (record {
        lease = push.lease;
        begun = push.begun;
        members = takes_part;
        decided = None;
        told = λ storage. false;
        cast = λ storage. false;
      }) refl refl refl refl
      (same_functions _ _ (λ storage. told_none (place_in push.members storage) _))
      (same_functions _ _ (λ storage. cast_none (place_in push.members storage) _)))

  -- so the repository is seen as one whose push has begun
  here : state_of new repo now ≡ begun st takes_part
  here = same_state _ _ refl refl
      (same_functions _ _ (read_same _ is_assigned_in (λ r lease. refl)))
      (same_functions _ _ replicas) turn

  -- ---- another repository

  -- its turn is what it was
  other_turn : (other : ℕ) → (other ≡ repo → ⊥)
      → turn_of new.cluster.core other ≡ turn_of core other
  other_turn other differs = find-append (λ (p : OpenPush). p.repo == other) core.pushes (push ∷ [])
      ∙ by (turn_of core other)
    where
      by : (there : Option OpenPush) → option_or there
          (find (λ (p : OpenPush). p.repo == other) (push ∷ [])) ≡ there
      by (Some p) = refl
      by None = elim (bool (repo == other)) [
        | inl same ↦ absurd (differs (sym (same_number repo other same)))
        | inr fails ↦ (rw fails refl)
      ]

  -- and so is all that is seen of it
  others : (other : ℕ) (b : Repository) → (other ≡ repo → ⊥)
      → repository core other ≡ Some b → LooksSame whole new other b
  others other b differs is = looks_so whole new.cluster.core new.cluster.ledger
      new.cluster.pushed other b (purposes_elsewhere whole.cluster.ledger repo takes_part push.lease
      (λ s old. ledger.Pushing push.begun None false) other differs)
      (ap (seen_turn new.cluster.core) (other_turn other differs)
      ∙ seen_later core new.cluster.core vote push.tx refl refl sound.form.core.turns other
      (turn_of core other) refl)

  -- so each goes on
  begun_goes : GoesOn whole new
  begun_goes = book_goes whole new repo book now known refl others
      (once_to st (begun st takes_part) (state_of new repo now) here (Begins st takes_part can))

-- where the repository is known
by_book : (whole : Whole) (repo : ℕ) (there : Option Repository) → IsSound whole
    → repository whole.cluster.core repo ≡ there
    → begin_refusal whole.cluster.core repo there ≡ None → GoesOn whole (record whole {
      cluster = record (issues_begin whole.cluster repo there) {
        core = begun_at repo there whole.cluster.core;
      };
    })
by_book whole repo None sound is none = absurd (cc)
by_book whole repo (Some book) sound is none = begun_goes whole repo book sound is none

pub begin_goes : BeginGoesOn
begin_goes repo whole sound none = by_book whole repo.0 (repository whole.cluster.core repo.0) sound
    refl (first_none (begin_refusal whole.cluster.core repo.0
    (repository whole.cluster.core repo.0)) _ none)
