-- A vote that changes the votes of one push, its repository's book, log and floors, and nothing
-- else: each other repository is seen as it was, and of its own one the turn has the new votes.
use Rattle.std.proofs.Common.{◌≡◌, ℕ, Option, None, Some, refl, sym, ◌∙◌, ap, is_some}
use Rattle.px_ops.specs.declared.booking.Booking.{Booking}
use Rattle.px_ops.specs.declared.booking.Booking.TheVariants as booking
use Rattle.txmanager.specs.Registry.{with_transaction}
use Rattle.txmanager.specs.Voting.{Voting}
use Rattle.px_cluster.specs.Book.{Replica, Repository, booked, booking_in, generation, is_assigned, is_assigned_in, kept_in, replica_on}
use Rattle.px_cluster.specs.Core.{Core, OpenPush, push_of, repository, turn_of, voting, with_repository}
use Rattle.px_cluster.specs.Ids.{gen}
use Rattle.replica_invariant.specs.Booking.{Doubt, generation as seen_generation}
use Rattle.replica_invariant.specs.Pushes.{doubted}
use Rattle.replica_invariant.specs.State.{Entry, Replica as SeenReplica}
use Rattle.safe_states.specs.Grows.{LeadsTo}
use Rattle.cluster_form.specs.Form.{HasForm}
use Rattle.cluster_form.proofs.Lists.{some_is}
use Rattle.cluster_form.proofs.Registries.{found_set}
use Rattle.cluster_history.specs.Goes.{GoesOn}
use Rattle.cluster_history.specs.History.{History, Whole}
use Rattle.cluster_history.specs.Seen.{node_if, replica_of, seen_booking, seen_push, seen_turn, state_of, vote_or_none}
use Rattle.cluster_history.proofs.Frame.{LooksSame, same_functions, same_replica, same_shared, same_state}
use Rattle.cluster_history.proofs.OneRepository.{book_goes}
use Rattle.vote_steps.proofs.Cases.{both_some}
use Rattle.vote_steps.proofs.Doubts.{same_generation}
use Rattle.vote_steps.proofs.SameVotes.{other_vote}
use Rattle.vote_steps.proofs.Turns.{IsOpen, turn_is}

-- an open push, with the votes before and after
pub record VotedPush (core : Core) : Type 0 where
  pub push : OpenPush
  pub is_open : IsOpen core push
  pub vote : Voting
  pub there : voting core push.tx ≡ Some vote
  pub now : Voting

-- what its repository is afterwards, and what is remembered
pub record Left (history : History) (repo : ℕ) (before : Repository) : Type 0 where
  pub book : Repository
  pub path : book.path ≡ before.path
  pub entry : ℕ → ℕ → Entry
  pub entries : (other : ℕ) → (other ≡ repo → ⊥) → entry other ≡ history.entry other
  pub floor : ℕ → ℕ → Option ℕ
  pub floors : (other : ℕ) → (other ≡ repo → ⊥) → floor other ≡ history.floor other

-- all that is remembered is as it was
abbrev pub with_book : (history : History) (repo : ℕ) (before book : Repository)
    → book.path ≡ before.path → Left history repo before
with_book history repo before book path = record {
  book = book;
  path = path;
  entry = history.entry;
  entries = λ other differs. refl;
  floor = history.floor;
  floors = λ other differs. refl;
}

module _ (old : Whole) (form : HasForm old.cluster) (voted : VotedPush old.cluster.core)
    (left : Left old.history voted.push.repo voted.is_open.book) where
  abbrev core : Core
  core = old.cluster.core

  abbrev push : OpenPush
  push = voted.push

  abbrev book : Repository
  book = voted.is_open.book

  abbrev new_core : Core
  new_core = with_repository push.repo left.book
      (record core { transactions = with_transaction core.transactions push.tx (Some voted.now) })

  abbrev pub changed : Whole
  changed = record {
    cluster = record old.cluster { core = new_core };
    history = record old.history { entry = left.entry; floor = left.floor };
  }

  -- ---- turns

  -- a push is seen by its votes
  seen_with : (p : OpenPush) (a b : Option Voting) → a ≡ b
      → Some (seen_push p (vote_or_none a)) ≡ Some (seen_push p (vote_or_none b))
  seen_with p a b same = both_some (seen_push p (vote_or_none a)) (seen_push p (vote_or_none b))
      (ap (λ v. seen_push p (vote_or_none v)) same)

  -- the push as it was seen
  pub turn_then : seen_turn core (turn_of core push.repo) ≡ Some (seen_push push voted.vote)
  turn_then = ap (seen_turn core) voted.is_open.turn
      ∙ seen_with push _ (Some voted.vote) voted.there

  -- .. and as it is seen now
  pub turn_now : seen_turn new_core (turn_of new_core push.repo)
      ≡ Some (seen_push push voted.now)
  turn_now = ap (seen_turn new_core) voted.is_open.turn ∙ seen_with push _ (Some voted.now)
      (found_set push.tx.0 core.transactions voted.vote voted.now voted.there)

  -- the push of another repository is of another transaction
  apart : (other : ℕ) → (other ≡ push.repo → ⊥) → (p : OpenPush) → turn_of core other ≡ Some p
      → p.tx ≡ push.tx → ⊥
  apart other differs p turn same =
      let found = turn_is core form.core other p turn in
      let one : push ≡ p = some_is push p
      (sym voted.is_open.named ∙ ap (push_of core) (sym same) ∙ found.1.named) in
      differs (sym found.0 ∙ ap (λ (q : OpenPush). q.repo) (sym one))

  -- another turn is seen as it was
  other_turn : (other : ℕ) → (other ≡ push.repo → ⊥)
      → seen_turn new_core (turn_of new_core other) ≡ seen_turn core (turn_of core other)
  other_turn other differs = by (turn_of core other) refl
    where
      by : (p : Option OpenPush) → turn_of core other ≡ p
          → seen_turn new_core (turn_of core other) ≡ seen_turn core (turn_of core other)
      by None is = ap (seen_turn new_core) is ∙ sym (ap (seen_turn core) is)
      by (Some p) is = ap (seen_turn new_core) is
          ∙ seen_with p (voting new_core p.tx) (voting core p.tx)
          (other_vote old form push.tx voted.vote voted.now voted.there p
          (apart other differs p is))
          ∙ sym (ap (seen_turn core) is)

  -- ---- another repository

  -- another repository is seen as it was
  others : (other : ℕ) (b : Repository) → (other ≡ push.repo → ⊥)
      → repository core other ≡ Some b → LooksSame old changed other b
  others other b differs known = record {
    admitted = refl;
    node = λ storage. refl;
    ledger = refl;
    entry = left.entries other differs;
    text = refl;
    floor = left.floors other differs;
    level = refl;
    had = refl;
    read_at = refl;
    job = λ storage. refl;
    turn = other_turn other differs;
  }

  -- it is enough to know what happened to its own one
  pub push_goes : LeadsTo (state_of old push.repo book) (state_of changed push.repo left.book)
      → GoesOn old changed
  push_goes leads =
      book_goes old changed push.repo book left.book voted.is_open.known refl others leads

  -- ---- its own one

  abbrev then_ : ℕ → SeenReplica
  then_ = replica_of changed push.repo left.book

  abbrev was : ℕ → SeenReplica
  was = replica_of old push.repo book

  -- a replica of which the book has what it had
  pub replica_same : (storage : ℕ) → replica_on left.book storage ≡ replica_on book storage
      → left.floor push.repo storage ≡ old.history.floor push.repo storage
      → then_ storage ≡ was storage
  replica_same storage same floor = same_replica (then_ storage) (was storage) (ap kept_in same)
      (ap (λ r. seen_booking (booking_in r)) same) floor
      (λ i. node_if (is_some (same i)) (old.cluster.node storage (left.path i)))
      refl refl refl refl

  module _ (storage : ℕ) (replica : Replica) (booking_ : Booking)
      (had : replica_on book storage ≡ Some replica)
      (has : replica_on left.book storage ≡ Some (booked booking_ replica)) where
    -- one that is booked otherwise
    pub replica_booked : (held : Option ℕ) → left.floor push.repo storage ≡ held
        → then_ storage
        ≡ record (was storage) { booking = seen_booking booking_; floor = held }
    replica_booked held floor = same_replica (then_ storage)
        (record (was storage) { booking = seen_booking booking_; floor = held })
        (ap kept_in has ∙ sym (ap kept_in had)) (ap (λ r. seen_booking (booking_in r)) has) floor
        ((λ i. node_if (is_some (has i)) (old.cluster.node storage (left.path i)))
        ∙ sym (ap (λ r. node_if (is_some r) (old.cluster.node storage book.path)) had))
        refl refl refl refl

    -- it is assigned where it was
    pub assigned_booked : is_assigned left.book storage ≡ is_assigned book storage
    assigned_booked = ap is_assigned_in has ∙ sym (ap is_assigned_in had)

  -- one that is put in doubt
  pub replica_doubted : (storage : ℕ) (replica : Replica) (lease due : ℕ)
      → replica_on book storage ≡ Some replica
      → replica_on left.book storage
      ≡ Some (booked (booking.Doubt lease (gen (generation replica.booking)) (gen due)) replica)
      → left.floor push.repo storage ≡ old.history.floor push.repo storage
      → then_ storage ≡ doubted (was storage) lease due
  replica_doubted storage replica lease due had has floor =
      replica_booked storage replica
      (booking.Doubt lease (gen (generation replica.booking)) (gen due)) had has
      (old.history.floor push.repo storage) floor
      ∙ ap (λ n. let r : SeenReplica = record (was storage) { booking = Doubt lease n due } in r)
      (same_generation replica.booking
      ∙ sym (ap (λ r. seen_generation (seen_booking (booking_in r))) had))

  -- where the book says what it said of each replica, only the votes changed
  pub turn_only : left.book.newest ≡ book.newest → left.book.last ≡ book.last
      → left.book.creation ≡ book.creation → left.entry push.repo ≡ old.history.entry push.repo
      → left.floor push.repo ≡ old.history.floor push.repo
      → ((storage : ℕ) → replica_on left.book storage ≡ replica_on book storage)
      → state_of changed push.repo left.book
      ≡ record (state_of old push.repo book) { turn = Some (seen_push push voted.now) }
  turn_only newest last creation entry floor same =
      same_state (state_of changed push.repo left.book)
      (record (state_of old push.repo book) { turn = Some (seen_push push voted.now) })
      (same_shared (state_of changed push.repo left.book).shared
      (state_of old push.repo book).shared newest last creation entry refl) refl
      (same_functions _ _ (λ storage. ap is_assigned_in (same storage)))
      (same_functions _ _ (λ storage.
      replica_same storage (same storage) (ap (λ f. f storage) floor))) turn_now
