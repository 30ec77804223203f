-- What the operations of the core need, of every safe cluster.
use Rattle.std.proofs.Common.{◌≡◌, ◌+◌, ℕ, true, false, Option, Some, ◌∙◌, ap}
use Rattle.px_base.specs.declared.ids.Gen.{Gen}
use Rattle.px_ops.specs.declared.booking.Booking.{Booking as BookedSo}
use Rattle.px_ops.specs.declared.booking.Booking.TheVariants as booking
use Rattle.txmanager.specs.Voting.{Voting}
use Rattle.px_cluster.specs.Book.{Repository, booking_on}
use Rattle.px_cluster.specs.Core.{OpenPush as CorePush}
use Rattle.px_cluster.specs.Ids.{gen}
use Rattle.px_cluster.specs.Ledger as ledger
use Rattle.replica_invariant.specs.Booking.{Absent, At, Doubt}
use Rattle.replica_invariant.specs.Invariant.{Invariant}
use Rattle.replica_invariant.specs.Purposes.{is_committed}
use Rattle.replica_invariant.specs.State.{OpenPush, State}
use Rattle.safe_states.proofs.Conditions.{late_voters_are_at_the_generation_before, members_are_at_newest, who_confirms_is_in_doubt}
use Rattle.safe_states.proofs.Reached.{every_state_has_the_invariant}
use Rattle.cluster_history.specs.History.{Whole}
use Rattle.cluster_history.specs.Seen.{decided_hash, seen_booking, seen_purpose, seen_push, seen_turn, state_of, vote_or_none}
use Rattle.cluster_runs.specs.Conditions.{ConfirmersAreInDoubt, HasTurn, LateVotersAreAt, MembersAreAt, OneHasConfirmed}
use Rattle.cluster_runs.specs.Safe.{IsSafeCluster}

-- ---- bookings as they are seen

pub gen_is : (one other : Gen) → one.0 ≡ other.0 → one ≡ other
gen_is one other same = ap (λ n. let g : Gen = record { 0 = n } in g) same

at_is : (booked : BookedSo) (n : ℕ) → seen_booking booked ≡ At n → booked ≡ booking.At (gen n)
at_is booking.Absent n is = absurd (let z : Absent ≡ At n = is in cc)
at_is (booking.At held) n is =
    let same : held.0 ≡ n = cc in ap booking.At (gen_is held (gen n) same)
at_is (booking.Doubt lease was due) n is = absurd (cc)

doubt_is : (booked : BookedSo) (lease was due : ℕ) → seen_booking booked ≡ Doubt lease was due
    → booked ≡ booking.Doubt lease (gen was) (gen due)
doubt_is booking.Absent lease was due is = absurd (cc)
doubt_is (booking.At held) lease was due is = absurd (cc)
doubt_is (booking.Doubt lease_ was_ due_) lease was due is =
    let one : lease_ ≡ lease = cc in
    let two : was_.0 ≡ was = cc in
    let three : due_.0 ≡ due = cc in
    λ i. booking.Doubt (one i) (gen_is was_ (gen was) two i) (gen_is due_ (gen due) three i)

-- what was answered is seen as answered
committed_is : (level : ℕ) (purpose : ledger.Purpose) → ledger.is_committed purpose ≡ true
    → is_committed (seen_purpose level purpose) ≡ true
committed_is level (ledger.Pushing begun commit answered) is = is
committed_is level ledger.Unused is = absurd (let z : false ≡ true = is in cc)
committed_is level (ledger.Creation made) is = absurd (let z : false ≡ true = is in cc)
committed_is level (ledger.Updating job source generation kept answered) is =
    absurd (let z : false ≡ true = is in cc)
committed_is level (ledger.Deleting job answered) is = absurd (let z : false ≡ true = is in cc)
committed_is level (ledger.Fencing last) is = absurd (let z : false ≡ true = is in cc)

-- ---- the push as it is seen

module _ (whole : Whole) (repo storage : ℕ) (book : Repository) (push : CorePush) (vote : Voting)
    (safe : IsSafeCluster whole) (has : HasTurn whole repo book push vote) where
  abbrev st : State
  st = state_of whole repo book

  abbrev seen : OpenPush
  seen = seen_push push vote

  invariant : Invariant st
  invariant = every_state_has_the_invariant st (safe.reached repo book has.there)

  turn : st.turn ≡ Some seen
  turn = ap (seen_turn whole.cluster.core) has.turn
      ∙ ap (λ v. let o : Option OpenPush = Some (seen_push push (vote_or_none v)) in o) has.voting_

pub members_are_at : MembersAreAt
members_are_at whole repo storage book push vote safe has open_ member =
    at_is (booking_on book storage) book.newest (members_are_at_newest
    (st whole repo storage book push vote safe has) (seen whole repo storage book push vote safe has)
    storage (invariant whole repo storage book push vote safe has)
    (turn whole repo storage book push vote safe has) (ap decided_hash open_) member)

pub late_voters_are_at : LateVotersAreAt
late_voters_are_at whole repo storage book push vote hash safe has decided member untold =
    let late = late_voters_are_at_the_generation_before
    (st whole repo storage book push vote safe has) (seen whole repo storage book push vote safe has)
    storage hash (invariant whole repo storage book push vote safe has)
    (turn whole repo storage book push vote safe has) (ap decided_hash decided) member untold in
    (at_is (booking_on book storage) push.begun late.0, late.1)

pub confirmers_are_in_doubt : ConfirmersAreInDoubt
confirmers_are_in_doubt whole repo storage book push vote hash safe has decided told first answered =
    doubt_is (booking_on book storage) push.lease push.begun (push.begun + 1)
    (who_confirms_is_in_doubt (st whole repo storage book push vote safe has)
    (seen whole repo storage book push vote safe has) storage hash
    (invariant whole repo storage book push vote safe has) (record {
      turn = turn whole repo storage book push vote safe has;
      decided = ap decided_hash decided;
      told = told;
      first = first;
      answered = committed_is (whole.history.read_at repo storage push.lease)
          (whole.cluster.ledger repo storage push.lease) answered;
    }))

pub one_has_confirmed : OneHasConfirmed
one_has_confirmed whole repo storage book push vote hash safe has decided at =
    let is_safe = (safe.safe repo book has.there).push
    (seen whole repo storage book push vote safe has)
    (turn whole repo storage book push vote safe has) in
    let one = is_safe.waits storage hash (ap decided_hash decided) (ap seen_booking at) in
    (one.0, one.1, at_is (booking_on book one.0) book.newest one.2, one.3)
