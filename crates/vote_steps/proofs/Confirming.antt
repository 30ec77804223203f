-- A cast in the committed phase for the decided hash: its storage is booked at the new generation.
use Rattle.std.proofs.Common.{◌≡◌, ◌+◌, ℕ, Bool, true, false, if◌then◌else◌, Some, refl, sym, ◌∙◌, ap, subst, inl, inr, slice_get}
use Rattle.std.specs.Option.{option_map}
use Rattle.px_base.specs.declared.hash.Hash.{Hash}
use Rattle.px_base.specs.declared.ids.Gen.{Gen}
use Rattle.px_ops.specs.declared.booking.Booking.{Booking as BookedSo}
use Rattle.px_ops.specs.declared.booking.Booking.TheVariants as booking
use Rattle.voters.specs.declared.outcome.Outcome.TheVariants as outcome
use Rattle.px_cluster.specs.Book.{Replica, Repository, booked, booking_in, booking_on, is_assigned, is_assigned_in, replica_on, with_replica_on}
use Rattle.px_cluster.specs.Casts.{confirmed as book_confirmed, confirmed_as, is_committed_in}
use Rattle.px_cluster.specs.Ledger as ledger
use Rattle.px_cluster.specs.Ledger.{is_committed}
use Rattle.replica_invariant.specs.Booking.{Booking, Absent, At, Doubt}
use Rattle.replica_invariant.specs.Invariant.{Invariant, IsTold}
use Rattle.replica_invariant.specs.Purposes.{is_committed as is_seen_committed}
use Rattle.replica_invariant.specs.Pushes.{CanConfirm, confirmed, confirmed_cast}
use Rattle.replica_invariant.specs.State.{OpenPush as SeenPush, Replica as SeenReplica, State, with_value}
use Rattle.safe_states.specs.Happens.{Confirms}
use Rattle.safe_states.proofs.Reached.{every_state_has_the_invariant}
use Rattle.cluster_form.proofs.Lists.{same_self}
use Rattle.cluster_history.specs.Goes.{GoesOn, IsSound}
use Rattle.cluster_history.specs.History.{Whole, with_floor, with_value_at}
use Rattle.cluster_history.specs.Remembered.{by_doubt}
use Rattle.cluster_history.specs.Seen.{decided_hash, has_voted_in, replica_of, seen_booking, seen_push, seen_purpose, state_of}
use Rattle.cluster_history.proofs.Books.{KeepsStorage, changed_elsewhere, changed_here}
use Rattle.cluster_history.proofs.Frame.{once_to, same_functions, same_push, same_state}
use Rattle.cluster_history.proofs.OneReplica.{value_elsewhere, value_here}
use Rattle.vote_steps.proofs.Cases.{both_some, by_one, value_so}
use Rattle.vote_steps.proofs.CommittedCast.{CommittedCast, book, cast_is, is_turn, its_place, now, p, st, voted}
use Rattle.vote_steps.proofs.Doubts.{replica_there}
use Rattle.vote_steps.proofs.Members.{one_at}
use Rattle.vote_steps.proofs.OnPush.{Left, assigned_booked, changed, push_goes, replica_booked, replica_same, turn_now}
use Rattle.vote_steps.proofs.Results.{unvoted}

-- ---- what is seen in doubt

pub record IsDoubt (booked_ : BookedSo) (lease due : ℕ) : Type 0 where
  pub was : Gen
  pub at : Gen
  pub is : booked_ ≡ booking.Doubt lease was at
  pub due_ : at.0 ≡ due

-- a booking that is seen in doubt is
doubt_is : (booked_ : BookedSo) (lease was due : ℕ) → seen_booking booked_ ≡ Doubt lease was due
    → IsDoubt booked_ lease due
doubt_is booking.Absent lease was due is =
    absurd (let z : Absent ≡ Doubt lease was due = is in cc)
doubt_is (booking.At held) lease was due is =
    absurd (let z : At held.0 ≡ Doubt lease was due = is in cc)
doubt_is (booking.Doubt under before at) lease was due is =
    let z : Doubt under before.0 at.0 ≡ Doubt lease was due = is in
    let same : under ≡ lease = cc in
    record {
      was = before;
      at = at;
      is = ap (λ n. booking.Doubt n before at) same;
      due_ = cc;
    }

-- the answer of the node is seen
answer_seen : (level : ℕ) (purpose : ledger.Purpose) → is_committed purpose ≡ true
    → is_seen_committed (seen_purpose level purpose) ≡ true
answer_seen level ledger.Unused is = absurd (let z : false ≡ true = is in cc)
answer_seen level (ledger.Creation made) is = absurd (let z : false ≡ true = is in cc)
answer_seen level (ledger.Pushing begun commit answered) is = is
answer_seen level (ledger.Updating job source generation kept answered) is =
    absurd (let z : false ≡ true = is in cc)
answer_seen level (ledger.Deleting job answered) is = absurd (let z : false ≡ true = is in cc)
answer_seen level (ledger.Fencing last) is = absurd (let z : false ≡ true = is in cc)

module _ (old : Whole) (sound : IsSound old) (c : CommittedCast old.cluster.core) (v : ℕ)
    (is_voter : slice_get c.push.members c.voter ≡ Some v) (g : Hash)
    (was_decided : c.first.outcome ≡ outcome.Commit g)
    (answered : is_committed (old.cluster.ledger c.push.repo v c.push.lease) ≡ true) where
  abbrev before : State
  before = st old sound c

  abbrev push : SeenPush
  push = p old sound c

  abbrev was : Repository
  was = book old sound c

  -- the storage is told
  told_v : push.told v ≡ true
  told_v = ap (λ o. is_committed_in o (Some c.first)) (its_place old sound c v is_voter) ∙ c.told

  -- and had not voted
  not_voted : push.cast v ≡ false
  not_voted = ap (λ o. has_voted_in o (Some c.second)) (its_place old sound c v is_voter)
      ∙ unvoted c.second c.voter c.hash c.counts

  -- so it may confirm
  can : CanConfirm before push v g
  can = record {
    turn = is_turn old sound c;
    decided = ap decided_hash was_decided;
    told = told_v;
    first = not_voted;
    answered = answer_seen (old.history.read_at c.push.repo v c.push.lease)
        (old.cluster.ledger c.push.repo v c.push.lease) answered;
  }

  -- ---- who is told and has not voted is in doubt

  -- it is told and has not confirmed
  seen_doubt : (before.replica v).booking ≡ Doubt c.push.lease c.push.begun (c.push.begun + 1)
  seen_doubt = elim is_told.booking [
    | inl doubt ↦ doubt
    | inr done ↦ absurd (let z : false ≡ true = sym not_voted ∙ done.2 in cc)
  ]
    where
      invariant : Invariant before
      invariant =
          every_state_has_the_invariant before (sound.reached c.push.repo was c.is_open.known)

      is_told : IsTold push (push.cast v) (before.replica v)
      is_told = ((invariant.turn push (is_turn old sound c)).member v
          (one_at c.push.members c.voter v is_voter)).told told_v

  -- so there is a replica
  had : (replica : Replica) × (replica_on was v ≡ Some replica)
  had = replica_there was v (λ absent.
      let z : Absent ≡ Doubt c.push.lease c.push.begun (c.push.begun + 1) = sym absent ∙ seen_doubt
      in cc)

  -- with such a booking
  pub doubt : IsDoubt (booking_on was v) c.push.lease (c.push.begun + 1)
  doubt = doubt_is (booking_on was v) c.push.lease c.push.begun (c.push.begun + 1) seen_doubt

  -- ---- so it is booked where it was due

  abbrev left : Left old.history c.push.repo was
  left = record {
    book = with_replica_on v (book_confirmed c.push.lease) was;
    path = refl;
    entry = old.history.entry;
    entries = λ r differs. refl;
    floor = with_value_at old.history.floor c.push.repo v (Some doubt.at.0);
    floors = λ r differs. value_elsewhere old.history.floor c.push.repo _ r differs;
  }

  abbrev after_ : Whole
  after_ = changed old sound.form (voted old sound c) left

  -- a replica stays on its storage
  keeps : KeepsStorage (book_confirmed c.push.lease)
  keeps replica = refl

  -- its replica is booked
  has : replica_on left.book v ≡ Some (booked (booking.At doubt.at) had.0)
  has = changed_here (book_confirmed c.push.lease) keeps was v
      ∙ ap (option_map (book_confirmed c.push.lease)) had.1
      ∙ both_some (booked (confirmed_as c.push.lease had.0.booking) had.0)
      (booked (booking.At doubt.at) had.0) (ap (λ b. booked b had.0) confirmed_at)
    where
      confirmed_at : confirmed_as c.push.lease had.0.booking ≡ booking.At doubt.at
      confirmed_at = ap (confirmed_as c.push.lease) (sym (ap booking_in had.1) ∙ doubt.is)
          ∙ ap (λ (b : Bool). if b then booking.At doubt.at
          else booking.Doubt c.push.lease doubt.was doubt.at) (same_self c.push.lease)

  -- no other one changes
  beside : (s : ℕ) → (s ≡ v → ⊥) → replica_on left.book s ≡ replica_on was s
  beside s differs = changed_elsewhere (book_confirmed c.push.lease) keeps was v s differs

  -- what is assigned stays
  assigned_so : (s : ℕ) → is_assigned left.book s ≡ is_assigned was s
  assigned_so = by_one (λ s. is_assigned left.book s ≡ is_assigned was s) v
      (assigned_booked old sound.form (voted old sound c) left v had.0 (booking.At doubt.at) had.1
      has)
      (λ s differs. ap is_assigned_in (beside s differs))

  -- the floor of the storage alone is another
  floor_here : left.floor c.push.repo
      ≡ with_value (old.history.floor c.push.repo) v (Some doubt.at.0)
  floor_here = value_here old.history.floor c.push.repo _

  -- its replica is seen confirmed
  replica_v : replica_of after_ c.push.repo left.book v
      ≡ confirmed (before.replica v).booking (before.replica v)
  replica_v = replica_booked old sound.form (voted old sound c) left v had.0 (booking.At doubt.at)
      had.1 has (Some doubt.at.0) (ap (λ f. f v) floor_here
      ∙ value_here (old.history.floor c.push.repo) v (Some doubt.at.0))
      ∙ ap (λ n. let r : SeenReplica = record (before.replica v) {
        booking = At n;
        floor = Some n;
      } in r) doubt.due_
      ∙ sym (ap (λ (b : Booking). confirmed b (before.replica v)) seen_doubt)

  -- each replica is seen so
  replica_so : (s : ℕ) → replica_of after_ c.push.repo left.book s
      ≡ (confirmed_cast before push v).replica s
  replica_so = value_so (replica_of after_ c.push.repo left.book) before.replica v
      (confirmed (before.replica v).booking (before.replica v)) replica_v
      (λ s differs. replica_same old sound.form (voted old sound c) left s (beside s differs)
      (ap (λ f. f s) floor_here
      ∙ value_elsewhere (old.history.floor c.push.repo) v (Some doubt.at.0) s differs))

  abbrev push_then : SeenPush
  push_then = record push { cast = with_value push.cast v true }

  -- one more has voted
  turn_so : seen_push c.push (now old sound c) ≡ push_then
  turn_so = same_push (seen_push c.push (now old sound c)) push_then refl refl refl refl refl
      (same_functions _ _ (cast_is old sound c v is_voter))

  -- that is what a confirmation leaves
  here : state_of after_ c.push.repo left.book ≡ confirmed_cast before push v
  here = same_state (state_of after_ c.push.repo left.book) (confirmed_cast before push v) refl refl
      (same_functions _ _ assigned_so) (same_functions _ _ replica_so)
      (turn_now old sound.form (voted old sound c) left ∙ both_some _ push_then turn_so)

  -- the floor is remembered where the replica is in doubt under the push
  remembered : by_doubt old.history c.push v (booking_on was v)
      ≡ with_floor old.history c.push.repo v doubt.at.0
  remembered = ap (by_doubt old.history c.push v) doubt.is
      ∙ ap (λ (b : Bool). if b then with_floor old.history c.push.repo v doubt.at.0
      else old.history) (same_self c.push.lease)

  -- the vote confirms
  pub confirms : GoesOn old (record {
    cluster = after_.cluster;
    history = by_doubt old.history c.push v (booking_on was v);
  })
  confirms = subst (λ h. GoesOn old (record { cluster = after_.cluster; history = h }))
      (sym remembered) (push_goes old sound.form (voted old sound c) left
      (once_to before (confirmed_cast before push v) (state_of after_ c.push.repo left.book) here
      (Confirms before push v g can)))
