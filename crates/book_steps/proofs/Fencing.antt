-- A lease is drawn for a fence, so that what a replica holds is accepted, or a doubt is settled,
-- after it; a job that runs for the replica goes.
use Rattle.std.proofs.Common.{◌≡◌, ℕ, ◌+◌, ◌<◌, ◌≤◌, not, List, Option, None, Some, refl, sym, ◌∙◌, ap, find, arith}
use Rattle.std.specs.Option.{option_map}
use Rattle.px_base.specs.declared.ids.RepoId.{RepoId}
use Rattle.px_base.specs.declared.ids.StorageId.{StorageId}
use Rattle.px_ops.specs.declared.job.Job.{Job}
use Rattle.px_ops.specs.declared.op.Op.TheVariants as op
use Rattle.px_ops.specs.declared.refusal.Refusal.TheVariants as refusal
use Rattle.px_cluster.specs.Book.{Replica, Repository, booking_in, booking_on, drawn_for, is_absent, is_in_doubt, replica_on, with_lease_for}
use Rattle.px_cluster.specs.Core.{repository, turn_of, with_repository_by}
use Rattle.px_cluster.specs.Creating.{unknown_storage}
use Rattle.px_cluster.specs.Issues.{issues_fence}
use Rattle.px_cluster.specs.Jobs.{is_for, without_running}
use Rattle.px_cluster.specs.Ledger.{Fencing, with_purpose}
use Rattle.px_cluster.specs.Ops.{refusal_of}
use Rattle.px_cluster.specs.Pushes.{turn_taken}
use Rattle.px_cluster.specs.Refusals.{cause}
use Rattle.px_cluster.specs.Repairs.{accept_begin_refusal, settle_begin_refusal}
use Rattle.replica_invariant.specs.Booking.{Absent}
use Rattle.replica_invariant.specs.Invariant.{Invariant}
use Rattle.replica_invariant.specs.Repairs.{CanFence, fence_drawn}
use Rattle.replica_invariant.specs.State.{Job as SeenJob, State}
use Rattle.safe_states.specs.Happens.{DrawsFence}
use Rattle.cluster_form.proofs.Induction.{first_none}
use Rattle.cluster_form.proofs.TurnsKept.{first_holds, no_turn, not_caused}
use Rattle.cluster_history.specs.Goes.{GoesOn, IsSound}
use Rattle.cluster_history.specs.History.{Whole}
use Rattle.cluster_history.specs.Seen.{seen_booking, seen_job, seen_purpose, seen_turn, state_of}
use Rattle.cluster_history.proofs.Frame.{once, same_functions, same_replica}
use Rattle.cluster_history.proofs.OneReplica.{ledger_beside, ledger_here, ledger_other, purpose_seen}
use Rattle.book_steps.specs.Books.{AcceptBeginGoesOn, SettleBeginGoesOn}
use Rattle.book_steps.proofs.Bookings.{booked_present, doubted_present}
use Rattle.book_steps.proofs.OneBook.{Beside, LeavesOthers, as_it_was, has_invariant}
use Rattle.book_steps.proofs.OneReplica.{LeavesReplicas, replica_changes}
use Rattle.book_steps.proofs.Refusals.{holds, replica_known}
use Rattle.book_steps.proofs.Running.{is_left, others_stay, without}

-- a storage where something is booked was admitted
admitted_is : (st : State) (storage : ℕ) → Invariant st
    → ((st.replica storage).booking ≡ Absent → ⊥) → storage < st.admitted
admitted_is st storage always there = below st.admitted storage
    (λ beyond. there (always.shape.fresh storage beyond).booking)
  where
    below : (a b : ℕ) → (a ≤ b → ⊥) → b < a
    below a b differs = omega (arith, differs)

-- ---- a lease is drawn

module _ (whole : Whole) (repo storage : ℕ) (book : Repository) (replica : Replica)
    (sound : IsSound whole) (known : repository whole.cluster.core repo ≡ Some book)
    (there : replica_on book storage ≡ Some replica)
    (idle : turn_of whole.cluster.core repo ≡ None)
    (present : seen_booking (booking_on book storage) ≡ Absent → ⊥) where
  abbrev st : State
  st = state_of whole repo book

  abbrev lease : ℕ
  lease = book.last + 1

  abbrev jobs : List Job
  jobs = without repo storage whole.cluster.core.jobs

  abbrev beside : Beside
  beside = record (as_it_was whole) {
    jobs = jobs;
    ledger = with_purpose whole.cluster.ledger repo storage lease (Fencing None);
  }

  others : LeavesOthers whole repo beside
  others = record {
    job = λ other target differs. others_stay repo storage other target
        (λ same also. differs same) whole.cluster.core.jobs;
    ledger = ledger_other whole.cluster.ledger repo storage lease (Fencing None);
    entry = λ other differs. refl;
    floor = λ other differs. refl;
    level = λ other differs. refl;
    had = λ other differs. refl;
  }

  leaves : LeavesReplicas whole repo storage beside
  leaves = record {
    job = λ other differs. others_stay repo storage repo other (λ same also. differs also)
        whole.cluster.core.jobs;
    ledger = ledger_beside whole.cluster.ledger repo storage lease (Fencing None);
    floor = λ other differs. refl;
    level = λ other differs. refl;
    had = λ other differs. refl;
  }

  abbrev left : Option SeenJob
  left = option_map seen_job (find (is_for repo storage) jobs)

  can : CanFence st storage left
  can = record {
    known = admitted_is st storage (has_invariant whole sound repo book known) present;
    turn = ap (seen_turn whole.cluster.core) idle;
    booking = present;
    job = is_left repo storage whole.cluster.core.jobs sound.form.core.jobs.order
        (st.replica storage) refl;
  }

  purposes : (x : ℕ) → seen_purpose (whole.history.read_at repo storage x)
      (beside.ledger repo storage x) ≡ (fence_drawn (st.replica storage) lease left).purpose x
  purposes x = ap (seen_purpose (whole.history.read_at repo storage x))
      (ledger_here whole.cluster.ledger repo storage lease (Fencing None) x)
      ∙ purpose_seen (whole.history.read_at repo storage) (whole.cluster.ledger repo storage) lease
      (Fencing None) x

  -- it is an event of that repository
  pub fence_goes : GoesOn whole (record {
    cluster = record (issues_fence whole.cluster repo storage (Some book)) {
      core = with_repository_by (Some book) repo (with_lease_for storage)
          (without_running repo storage whole.cluster.core);
    };
    history = whole.history;
  })
  fence_goes = replica_changes whole repo storage book replica (drawn_for lease) book.newest lease
      beside there (record { storage = λ x. refl; assigned = λ x. refl }) leaves known others
      (whole.history.entry repo) (fence_drawn (st.replica storage) lease left) refl
      (same_replica _ (fence_drawn (st.replica storage) lease left) refl
      (sym (ap (λ x. seen_booking (booking_in x)) there)) refl refl refl refl
      (same_functions _ _ purposes) refl)
      (once st _ (DrawsFence st storage left can))

-- ---- the operations

module _ (whole : Whole) (repo : RepoId) (storage : StorageId) (sound : IsSound whole) where
  abbrev Left : Option Repository → Type 0
  Left there = GoesOn whole (record {
    cluster = record (issues_fence whole.cluster repo.0 storage.0 there) {
      core = with_repository_by there repo.0 (with_lease_for storage.0)
          (without_running repo.0 storage.0 whole.cluster.core);
    };
    history = whole.history;
  })

  accept_begins : (there : Option Repository) → repository whole.cluster.core repo.0 ≡ there
      → accept_begin_refusal whole.cluster.core repo.0 there storage.0 ≡ None → Left there
  accept_begins None known none = absurd (let z : Some refusal.UnknownRepo ≡ None = none in cc)
  accept_begins (Some book) known none =
      let first = first_holds (unknown_storage whole.cluster.core book storage.0) _ none in
      let second = first_holds (turn_taken (turn_of whole.cluster.core repo.0)) _ first.1 in
      let absent = is_absent (booking_on book storage.0) in
      let third = first_holds (cause absent refusal.NotBooked) _ second.1 in
      let replica = replica_known whole.cluster.core book storage.0 first.0 in
      fence_goes whole repo.0 storage.0 book replica.0 sound known replica.1
      (no_turn (turn_of whole.cluster.core repo.0) second.0)
      (booked_present (booking_on book storage.0) (not_caused absent refusal.NotBooked third.0))

  settle_begins : (there : Option Repository) → repository whole.cluster.core repo.0 ≡ there
      → settle_begin_refusal whole.cluster.core repo.0 there storage.0 ≡ None → Left there
  settle_begins None known none = absurd (let z : Some refusal.UnknownRepo ≡ None = none in cc)
  settle_begins (Some book) known none =
      let first = first_holds (unknown_storage whole.cluster.core book storage.0) _ none in
      let second = first_holds (turn_taken (turn_of whole.cluster.core repo.0)) _ first.1 in
      let doubted = is_in_doubt (booking_on book storage.0) in
      let third = first_holds (cause (not doubted) refusal.NotInDoubt) _ second.1 in
      let replica = replica_known whole.cluster.core book storage.0 first.0 in
      fence_goes whole repo.0 storage.0 book replica.0 sound known replica.1
      (no_turn (turn_of whole.cluster.core repo.0) second.0)
      (doubted_present (booking_on book storage.0) (holds doubted refusal.NotInDoubt third.0))

pub an_acceptance_begins : AcceptBeginGoesOn
an_acceptance_begins repo storage whole sound accepted = accept_begins whole repo storage sound
    (repository whole.cluster.core repo.0) refl
    (first_none (refusal_of whole.cluster.core (op.AcceptBegin repo storage)) _ accepted)

pub a_settling_begins : SettleBeginGoesOn
a_settling_begins repo storage whole sound accepted = settle_begins whole repo storage sound
    (repository whole.cluster.core repo.0) refl
    (first_none (refusal_of whole.cluster.core (op.SettleBegin repo storage)) _ accepted)
