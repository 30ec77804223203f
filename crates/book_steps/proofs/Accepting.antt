-- What a replica holds is accepted as the newest generation.
use Rattle.std.proofs.Common.{◌≡◌, ℕ, ◌+◌, true, Option, None, Some, refl, sym, ◌∙◌, ap, is_some}
use Rattle.px_base.specs.declared.ids.RepoId.{RepoId}
use Rattle.px_base.specs.declared.ids.StorageId.{StorageId}
use Rattle.px_ops.specs.declared.booking.Booking.TheVariants as booking
use Rattle.px_ops.specs.declared.op.Op.TheVariants as op
use Rattle.px_ops.specs.declared.refusal.Refusal.TheVariants as refusal
use Rattle.px_cluster.specs.Acknowledged.{is_answered}
use Rattle.px_cluster.specs.Book.{Replica, Repository, booked, booking_on, is_absent, kept_in, kept_on, replica_on}
use Rattle.px_cluster.specs.Core.{repository, turn_of, with_repository_by}
use Rattle.px_cluster.specs.Creating.{lease_lost, unknown_storage}
use Rattle.px_cluster.specs.Ids.{gen}
use Rattle.px_cluster.specs.Jobs.{without_running}
use Rattle.px_cluster.specs.Ledger.{Fencing, fence_answer}
use Rattle.px_cluster.specs.Ops.{refusal_of}
use Rattle.px_cluster.specs.Pushes.{turn_taken}
use Rattle.px_cluster.specs.Refusals.{cause}
use Rattle.px_cluster.specs.Repairs.{accept_refusal, accepted}
use Rattle.replica_invariant.specs.Booking.{Absent}
use Rattle.replica_invariant.specs.Repairs.{accepted_replica, entry_of}
use Rattle.replica_invariant.specs.State.{Entry, State, with_value}
use Rattle.safe_states.specs.Happens.{Accepts}
use Rattle.cluster_form.proofs.Induction.{first_none}
use Rattle.cluster_form.proofs.TurnsKept.{first_holds, no_turn, not_caused}
use Rattle.cluster_history.specs.Goes.{GoesOn, IsSound}
use Rattle.cluster_history.specs.History.{Whole, with_value_at}
use Rattle.cluster_history.specs.Remembered.{accepted_entry, by_acceptance, if_known}
use Rattle.cluster_history.specs.Seen.{node_if, seen_booking, seen_turn, state_of}
use Rattle.cluster_history.proofs.Frame.{once, same_replica}
use Rattle.cluster_history.proofs.OneReplica.{value_here}
use Rattle.book_steps.specs.Books.{AcceptGoesOn}
use Rattle.book_steps.proofs.Bookings.{booked_present}
use Rattle.book_steps.proofs.OneBook.{Beside, LeavesOthers}
use Rattle.book_steps.proofs.OneReplica.{LeavesReplicas, replica_changes, value_beside, value_of_another, value_there}
use Rattle.book_steps.proofs.Refusals.{holds, is_there, lease_is, replica_known, second_none}
use Rattle.book_steps.proofs.Running.{others_stay, without}
use Rattle.book_steps.proofs.Answered.{answered_purpose, fenced, job_stays}

module _ (whole : Whole) (repo storage lease : ℕ) (last : Option ℕ) (book : Repository)
    (replica : Replica) (sound : IsSound whole)
    (known : repository whole.cluster.core repo ≡ Some book)
    (there : replica_on book storage ≡ Some replica) (kept : kept_on book storage ≡ lease)
    (answer : whole.cluster.ledger repo storage lease ≡ Fencing (Some last))
    (idle : turn_of whole.cluster.core repo ≡ None)
    (present : seen_booking (booking_on book storage) ≡ Absent → ⊥) where
  abbrev st : State
  st = state_of whole repo book

  abbrev newest : ℕ
  newest = book.newest + 1

  abbrev added : Entry
  added = accepted_entry whole.cluster storage book

  abbrev beside : Beside
  beside = record {
    jobs = without repo storage whole.cluster.core.jobs;
    ledger = whole.cluster.ledger;
    entry = with_value_at whole.history.entry repo newest added;
    floor = with_value_at whole.history.floor repo storage (Some newest);
    level = with_value_at whole.history.level repo storage (Some newest);
    had = with_value_at whole.history.had repo storage true;
  }

  others : LeavesOthers whole repo beside
  others = record {
    job = λ other target differs. others_stay repo storage other target
        (λ same also. differs same) whole.cluster.core.jobs;
    ledger = λ other differs. refl;
    entry = value_of_another whole.history.entry repo newest added;
    floor = value_of_another whole.history.floor repo storage (Some newest);
    level = value_of_another whole.history.level repo storage (Some newest);
    had = value_of_another whole.history.had repo storage true;
  }

  leaves : LeavesReplicas whole repo storage beside
  leaves = record {
    job = λ other differs. others_stay repo storage repo other (λ same also. differs also)
        whole.cluster.core.jobs;
    ledger = λ other under differs. refl;
    floor = value_beside whole.history.floor repo storage (Some newest);
    level = value_beside whole.history.level repo storage (Some newest);
    had = value_beside whole.history.had repo storage true;
  }

  -- what is accepted is what the node is seen to hold
  entries : with_value_at whole.history.entry repo newest added repo
      ≡ with_value (whole.history.entry repo) newest (entry_of (st.replica storage))
  entries = value_here whole.history.entry repo _
      ∙ ap (with_value (whole.history.entry repo) newest)
      (sym (ap (λ x. let entry : Entry = record added {
        content = Some (node_if (is_some x) (whole.cluster.node storage book.path)).refs;
      } in entry) there))

  -- it is at the new generation from then on
  pub accepts : GoesOn whole (record {
    cluster = record whole.cluster {
      core = with_repository_by (Some book) repo (accepted storage)
          (without_running repo storage whole.cluster.core);
    };
    history = by_acceptance whole.history whole.cluster repo storage book;
  })
  accepts = replica_changes whole repo storage book replica (booked (booking.At (gen newest)))
      newest book.last beside there (record { storage = λ x. refl; assigned = λ x. refl }) leaves
      known others (with_value (whole.history.entry repo) newest (entry_of (st.replica storage)))
      (accepted_replica (st.replica storage) newest) entries
      (same_replica _ (accepted_replica (st.replica storage) newest) (sym (ap kept_in there)) refl
      (value_there whole.history.floor repo storage (Some newest)) refl
      (value_there whole.history.level repo storage (Some newest))
      (value_there whole.history.had repo storage true) refl
      (job_stays whole repo storage lease last book sound known kept answer))
      (once st _ (Accepts st storage (record {
        turn = ap (seen_turn whole.cluster.core) idle;
        booking = present;
        answer = last;
        purpose = answered_purpose whole repo storage lease last book sound known kept answer;
      })))

-- ---- by the book

module _ (whole : Whole) (repo : RepoId) (storage : StorageId) (lease : ℕ) (last : Option ℕ)
    (sound : IsSound whole)
    (answer : whole.cluster.ledger repo.0 storage.0 lease ≡ Fencing (Some last)) where
  by_book : (there : Option Repository) → repository whole.cluster.core repo.0 ≡ there
      → accept_refusal whole.cluster.core repo.0 there storage.0 lease ≡ None
      → GoesOn whole (record {
        cluster = record whole.cluster {
          core = with_repository_by there repo.0 (accepted storage.0)
              (without_running repo.0 storage.0 whole.cluster.core);
        };
        history = if_known whole.history there
            (by_acceptance whole.history whole.cluster repo.0 storage.0);
      })
  by_book None known none = absurd (let z : Some refusal.UnknownRepo ≡ None = none in cc)
  by_book (Some book) known none =
      let first = first_holds (unknown_storage whole.cluster.core book storage.0) _ none in
      let second = first_holds (turn_taken (turn_of whole.cluster.core repo.0)) _ first.1 in
      let third = first_holds (lease_lost (kept_on book storage.0) lease) _ second.1 in
      let absent = is_absent (booking_on book storage.0) in
      let fourth = first_holds (cause absent refusal.NotBooked) _ third.1 in
      let replica = replica_known whole.cluster.core book storage.0 first.0 in
      accepts whole repo.0 storage.0 lease last book replica.0 sound known replica.1
      (lease_is (kept_on book storage.0) lease third.0) answer
      (no_turn (turn_of whole.cluster.core repo.0) second.0)
      (booked_present (booking_on book storage.0) (not_caused absent refusal.NotBooked fourth.0))

pub a_replica_is_accepted : AcceptGoesOn
a_replica_is_accepted repo storage lease whole sound accepted_ =
    let asked = op.Accept repo storage lease in
    let purpose = whole.cluster.ledger repo.0 storage.0 lease in
    let last = is_there (fence_answer purpose) (holds (is_answered whole.cluster asked)
    refusal.NotAcked (second_none (refusal_of whole.cluster.core asked) _ accepted_)) in
    by_book whole repo storage lease last.0 sound (fenced purpose last.0 last.1)
    (repository whole.cluster.core repo.0) refl
    (first_none (refusal_of whole.cluster.core asked) _ accepted_)
