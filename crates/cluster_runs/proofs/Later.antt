-- What is so of two states of one run: bookings never fall, and a read that was routed is answered.
use Rattle.std.proofs.Common.{◌≡◌, ◌≢◌, ◌≤◌, ℕ, Bool, true, false, Some, refl, sym, ◌∙◌, ap, subst, arith}
use Rattle.px_base.specs.declared.ids.Gen.{Gen}
use Rattle.px_ops.specs.declared.booking.Booking.{Booking as BookedSo}
use Rattle.px_ops.specs.declared.booking.Booking.TheVariants as booking
use Rattle.px_cluster.specs.Book.{Repository, booking_on, generation, has_replica_on, replica_on, storages_of}
use Rattle.px_cluster.specs.Cluster.{Cluster}
use Rattle.px_cluster.specs.Core.{repository}
use Rattle.px_cluster.specs.Ledger as ledger
use Rattle.replica_invariant.specs.Booking.{Absent, At}
use Rattle.replica_invariant.specs.Booking as seen
use Rattle.replica_invariant.specs.Invariant.{Invariant}
use Rattle.replica_invariant.specs.State.{AtNode}
use Rattle.px_cluster.specs.Numbers.{is_one_of}
use Rattle.safe_states.specs.Grows.{LeadsTo}
use Rattle.safe_states.proofs.Grows.{a_booking_never_falls, a_routed_read_is_answered}
use Rattle.safe_states.proofs.Reached.{every_state_has_the_invariant}
use Rattle.cluster_form.proofs.Lists.{some_is}
use Rattle.cluster_history.specs.History.{Whole}
use Rattle.cluster_history.specs.Seen.{seen_booking, seen_purpose, state_of}
use Rattle.cluster_runs.specs.Later.{BookingsNeverFall, IsAnswered, ReplicasGoByDeletes, RoutedReadsAreAnswered, WasDeleted}
use Rattle.cluster_runs.specs.Safe.{AreSafeTogether}
use Rattle.cluster_runs.proofs.Current.{absent_is, at_is_booked, booked_there, holds, node_is}
use Rattle.cluster_runs.proofs.Deletes.{is_delete, replica_goes}
use Rattle.cluster_runs.proofs.Quiet.{has_is_one}

-- what is booked is seen as booked, with its generation
is_booked : (booked : BookedSo) → booked ≢ booking.Absent → seen_booking booked ≢ Absent
is_booked booked some is = some (absent_is booked is)

generation-seen : (booked : BookedSo)
    → seen.generation (seen_booking booked) ≡ generation booked
generation-seen booking.Absent = refl
generation-seen (booking.At held) = refl
generation-seen (booking.Doubt lease was due) = refl

-- what is seen as a delete is one
delete_is : (level : ℕ) (purpose : ledger.Purpose)
    → is_delete (seen_purpose level purpose) ≡ true → (job : ℕ) × (answered : Bool)
    × (purpose ≡ ledger.Deleting job answered)
delete_is level (ledger.Deleting job answered_) is = (job, answered_, refl)
delete_is level ledger.Unused is = absurd (let z : false ≡ true = is in cc)
delete_is level (ledger.Creation made) is = absurd (let z : false ≡ true = is in cc)
delete_is level (ledger.Pushing begun commit answered_) is =
    absurd (let z : false ≡ true = is in cc)
delete_is level (ledger.Updating job source generation_ kept answered_) is =
    absurd (let z : false ≡ true = is in cc)
delete_is level (ledger.Fencing last) is = absurd (let z : false ≡ true = is in cc)

module _ (old new : Cluster) (together : AreSafeTogether old new) (repo storage : ℕ)
    (book now : Repository) (here : repository old.core repo ≡ Some book)
    (there : repository together.after.cluster.core repo ≡ Some now) where
  abbrev before : Whole
  before = together.before

  abbrev after : Whole
  after = together.after

  here_ : repository before.cluster.core repo ≡ Some book
  here_ = ap (λ (c : Cluster). repository c.core repo) together.is_before ∙ here

  first : Invariant (state_of before repo book)
  first = every_state_has_the_invariant (state_of before repo book)
      (together.safe_before.reached repo book here_)

  leads : LeadsTo (state_of before repo book) (state_of after repo now)
  leads =
      let on = together.follows repo book here_ in
      subst (λ b. LeadsTo (state_of before repo book) (state_of after repo b))
      (some_is on.now now (sym on.there ∙ there)) on.leads

  never_falls : booking_on book storage ≢ booking.Absent
      → booking_on now storage ≢ booking.Absent
      → generation (booking_on book storage) ≤ generation (booking_on now storage)
  never_falls booked later =
      let on = a_booking_never_falls (state_of before repo book) (state_of after repo now) storage
      first leads (is_booked (booking_on book storage) booked)
      (is_booked (booking_on now storage) later) in
      let one = generation-seen (booking_on book storage) in
      let other = generation-seen (booking_on now storage) in omega (arith, on, one, other)

  -- what goes absent was deleted
  deleted : booking_on book storage ≢ booking.Absent → booking_on now storage ≡ booking.Absent
      → WasDeleted book after.cluster repo storage
  deleted booked absent =
      let goes = replica_goes (state_of before repo book) (state_of after repo now) first leads
      storage in
      let is = goes.gone (is_booked (booking_on book storage) booked) (ap seen_booking absent) in
      let drawn = delete_is (after.history.read_at repo storage is.lease)
      (after.cluster.ledger repo storage is.lease) is.delete in
      record {
        lease = is.lease;
        later = is.later;
        job = drawn.0;
        answered = drawn.1;
        drawn = drawn.2;
      }

  module _ (held : Gen) (booked : booking_on book storage ≡ booking.At held) where
    seen_at : ((state_of before repo book).replica storage).booking ≡ At held.0
    seen_at = ap seen_booking booked

    has : has_replica_on now storage ≡ true
    has =
        let was : has_replica_on book storage ≡ true = booked_there (replica_on book storage)
        (at_is_booked (booking_on book storage) held booked) in
        let home = together.homes repo storage (record {
          book = book;
          there = here_;
          home = sym (has_is_one before.cluster repo storage book together.safe_before.form here_)
              ∙ was;
        }) in
        let same : home.book ≡ now = some_is home.book now (sym home.there ∙ there) in
        has_is_one after.cluster repo storage now together.safe_after.form there
        ∙ ap (λ (b : Repository). is_one_of storage (storages_of after.cluster.core.storages b.virt))
        (sym same) ∙ home.home

    answered : IsAnswered after repo storage held.0 book now
    answered =
        let read = a_routed_read_is_answered (state_of before repo book) (state_of after repo now)
        storage held.0 first leads seen_at in
        let is_held = ap (λ (n : AtNode). n.held)
        (node_is after repo storage now together.safe_after has) in
        record {
          held = λ is. let at = read.0 (is_held ∙ is) in record {
            generation = at.0;
            low = at.1;
            newest = at.2;
            holds = holds after repo storage now together.safe_after has at.0 at.3;
          };
          gone = λ is.
              let absent = absent_is (booking_on now storage) (read.1 (is_held ∙ is)) in (
                absent,
                deleted (at_is_booked (booking_on book storage) held booked) absent,
              );
        }

pub routed_reads_are_answered : RoutedReadsAreAnswered
routed_reads_are_answered old new together repo storage book now routed here there booked =
    answered old new together repo storage book now here there routed booked

pub bookings_never_fall : BookingsNeverFall
bookings_never_fall old new together repo storage book now here there booked later =
    never_falls old new together repo storage book now here
    (ap (λ (c : Cluster). repository c.core repo) together.is_after ∙ there) booked later

pub replicas_go_by_deletes : ReplicasGoByDeletes
replicas_go_by_deletes old new together repo storage book now here there booked absent =
    subst (λ (c : Cluster). WasDeleted book c repo storage) together.is_after
    (deleted old new together repo storage book now here
    (ap (λ (c : Cluster). repository c.core repo) together.is_after ∙ there) booked absent)
