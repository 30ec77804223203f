-- A replica that was made is enrolled: it is booked at generation 0, where nothing was known of it.
use Rattle.std.proofs.Common.{subst, ◌≡◌, ℕ, ◌==◌, not, true, false, Option, None, Some, refl, sym, ◌∙◌, ap, inl, inr, if◌then◌else◌}
use Rattle.px_base.specs.declared.ids.RepoId.{RepoId}
use Rattle.px_base.specs.declared.ids.StorageId.{StorageId}
use Rattle.px_ops.specs.declared.booking.Booking.TheVariants as booking
use Rattle.px_ops.specs.declared.op.Op.TheVariants as op
use Rattle.px_ops.specs.declared.refusal.Refusal.TheVariants as refusal
use Rattle.px_cluster.specs.Acknowledged.{is_answered}
use Rattle.px_cluster.specs.Book.{Replica, Repository, booked, booking_in, is_absent, kept_in, kept_on, replica_on, with_replica_on}
use Rattle.px_cluster.specs.Core.{repository, with_repository, with_repository_by}
use Rattle.px_cluster.specs.Creating.{enrol_refusal, enrolled, lease_lost, unknown_storage}
use Rattle.px_cluster.specs.Ids.{gen}
use Rattle.px_cluster.specs.Ledger.{Creation, Deleting, Fencing, Purpose, Pushing, Unused, Updating, is_made}
use Rattle.px_cluster.specs.Ops.{refusal_of}
use Rattle.px_cluster.specs.Refusals.{cause}
use Rattle.replica_invariant.specs.Creations.{CanEnrol, enrolled as enrolled_replica}
use Rattle.replica_invariant.specs.State.{State}
use Rattle.safe_states.specs.Grows.{LeadsTo, Stays}
use Rattle.safe_states.specs.Happens.{Enrols}
use Rattle.cluster_form.proofs.Induction.{first_none}
use Rattle.cluster_form.proofs.Lists.{bool, if_kept, same_number}
use Rattle.cluster_form.proofs.TurnsKept.{first_holds}
use Rattle.cluster_history.specs.Goes.{GoesOn}
use Rattle.cluster_history.specs.History.{History, Whole, with_floor}
use Rattle.cluster_history.specs.Remembered.{by_enrolment, if_known}
use Rattle.cluster_history.specs.Seen.{seen_booking, seen_purpose, state_of}
use Rattle.cluster_history.proofs.Frame.{once, same_replica, same_state}
use Rattle.cluster_history.proofs.OneReplica.{value_same}
use Rattle.book_steps.specs.Books.{EnrolGoesOn}
use Rattle.book_steps.proofs.Bookings.{seen_absent}
use Rattle.book_steps.proofs.OneBook.{as_it_was, leaves_all}
use Rattle.book_steps.proofs.OneReplica.{LeavesAssigned, floor_leaves_others, floor_leaves_replicas, leaves_replicas, replica_changes, value_there, with_its_floor}
use Rattle.book_steps.proofs.Refusals.{holds, lease_is, replica_known, second_none}

-- what a create came under, whose answer is kept
made_purpose : (purpose : Purpose) → is_made purpose ≡ true → purpose ≡ Creation true
made_purpose (Creation true) is = refl
made_purpose (Creation false) is = absurd (let z : false ≡ true = is in cc)
made_purpose Unused is = absurd (let z : false ≡ true = is in cc)
made_purpose (Pushing begun commit answered) is = absurd (let z : false ≡ true = is in cc)
made_purpose (Updating job source generation kept answered) is =
    absurd (let z : false ≡ true = is in cc)
made_purpose (Deleting job answered) is = absurd (let z : false ≡ true = is in cc)
made_purpose (Fencing last) is = absurd (let z : false ≡ true = is in cc)

-- what enrolling leaves of the replica
keeps : LeavesAssigned enrolled
keeps = record {
  storage = λ x. if_kept (λ (y : Replica). y.storage) (is_absent x.booking) _ x refl;
  assigned = λ x. if_kept (λ (y : Replica). y.assigned) (is_absent x.booking) _ x refl;
}

module _ (whole : Whole) (repo storage lease : ℕ) (book : Repository) (replica : Replica)
    (known : repository whole.cluster.core repo ≡ Some book)
    (there : replica_on book storage ≡ Some replica) where
  abbrev st : State
  st = state_of whole repo book

  abbrev Left : History → Type 0
  Left history = GoesOn whole (record {
    cluster = record whole.cluster {
      core = with_repository repo (with_replica_on storage enrolled book) whole.cluster.core;
    };
    history = history;
  })

  booking_is : (st.replica storage).booking ≡ seen_booking replica.booking
  booking_is = ap (λ x. seen_booking (booking_in x)) there

  kept_is : (enrolled replica).kept ≡ kept_on book storage
  kept_is = if_kept (λ (x : Replica). x.kept) (is_absent replica.booking) _ replica refl
      ∙ sym (ap kept_in there)

  -- what is booked stays so
  stays : is_absent replica.booking ≡ false → Left whole.history
  stays held = replica_changes whole repo storage book replica enrolled book.newest book.last
      (as_it_was whole) there keeps (leaves_replicas whole repo storage) known
      (leaves_all whole repo) (whole.history.entry repo) (st.replica storage) refl
      (same_replica _ (st.replica storage) kept_is
      (ap (λ b. seen_booking (if b then booked (booking.At (gen 0)) replica else replica).booking)
      held ∙ sym booking_is) refl refl refl refl refl refl)
      (subst (LeadsTo st) (same_state st _ refl refl refl (sym (value_same st.replica storage))
      refl) (Stays st))

  -- it is at generation 0 from now on
  enrols : is_absent replica.booking ≡ true → CanEnrol st.shared (st.replica storage)
      → Left (with_floor whole.history repo storage 0)
  enrols absent can = replica_changes whole repo storage book replica enrolled book.newest book.last
      (with_its_floor whole repo storage 0) there keeps (floor_leaves_replicas whole repo storage 0)
      known (floor_leaves_others whole repo storage 0) (whole.history.entry repo)
      (enrolled_replica (st.replica storage)) refl
      (same_replica _ (enrolled_replica (st.replica storage)) kept_is
      (ap (λ b. seen_booking (if b then booked (booking.At (gen 0)) replica else replica).booking)
      absent) (value_there whole.history.floor repo storage (Some 0)) refl refl refl refl refl)
      (once st _ (Enrols st storage can))

  can : kept_on book storage ≡ lease → book.creation ≡ lease
      → whole.cluster.ledger repo storage lease ≡ Creation true → is_absent replica.booking ≡ true
      → CanEnrol st.shared (st.replica storage)
  can kept creation made absent = record {
    kept = kept ∙ sym creation;
    made = ap (st.replica storage).purpose creation
        ∙ ap (seen_purpose (whole.history.read_at repo storage lease)) made;
    booking = booking_is ∙ seen_absent replica.booking absent;
  }

  enrolment : kept_on book storage ≡ lease → book.creation ≡ lease
      → whole.cluster.ledger repo storage lease ≡ Creation true
      → Left (by_enrolment whole.history repo storage book)
  enrolment kept creation made = subst (λ there_. Left (if is_absent (booking_in there_)
      then with_floor whole.history repo storage 0 else whole.history)) (sym there)
      (elim (bool (is_absent replica.booking)) [
        | inl absent ↦ subst (λ b. Left (if b then with_floor whole.history repo storage 0
            else whole.history)) (sym absent) (enrols absent (can kept creation made absent))
        | inr held ↦ subst (λ b. Left (if b then with_floor whole.history repo storage 0
            else whole.history)) (sym held) (stays held)
      ])

-- ---- by the book

module _ (whole : Whole) (repo : RepoId) (storage : StorageId) (lease : ℕ)
    (answered : is_made (whole.cluster.ledger repo.0 storage.0 lease) ≡ true) where
  by_book : (there : Option Repository) → repository whole.cluster.core repo.0 ≡ there
      → enrol_refusal whole.cluster.core there storage.0 lease ≡ None
      → GoesOn whole (record {
        cluster = record whole.cluster {
          core = with_repository_by there repo.0 (with_replica_on storage.0 enrolled)
              whole.cluster.core;
        };
        history = if_known whole.history there (by_enrolment whole.history repo.0 storage.0);
      })
  by_book None known none = absurd (let z : Some refusal.UnknownRepo ≡ None = none in cc)
  by_book (Some book) known none =
      let first = first_holds (unknown_storage whole.cluster.core book storage.0) _ none in
      let second = first_holds (lease_lost (kept_on book storage.0) lease) _ first.1 in
      let third = first_holds (cause (not (book.creation == lease)) refusal.NotMaking) _ second.1 in
      let replica = replica_known whole.cluster.core book storage.0 first.0 in
      enrolment whole repo.0 storage.0 lease book replica.0 known replica.1
      (lease_is (kept_on book storage.0) lease second.0)
      (same_number book.creation lease (holds (book.creation == lease) refusal.NotMaking third.0))
      (made_purpose (whole.cluster.ledger repo.0 storage.0 lease) answered)

pub an_enrolment_goes_on : EnrolGoesOn
an_enrolment_goes_on repo storage lease whole sound accepted =
    let asked = op.Enrol repo storage lease in
    let answered = holds (is_answered whole.cluster asked) refusal.NotAcked
    (second_none (refusal_of whole.cluster.core asked) _ accepted) in
    by_book whole repo storage lease answered (repository whole.cluster.core repo.0) refl
    (first_none (refusal_of whole.cluster.core asked) _ accepted)
