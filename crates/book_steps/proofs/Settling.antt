-- A doubt is settled by the last lease that the node answered to the fence under the kept lease.
use Rattle.std.proofs.Common.{◌≡◌, ℕ, not, true, false, Option, None, Some, refl, sym, ◌∙◌, ap, subst, inl, inr, if◌then◌else◌}
use Rattle.px_base.specs.declared.ids.Gen.{Gen}
use Rattle.px_base.specs.declared.ids.RepoId.{RepoId}
use Rattle.px_base.specs.declared.ids.StorageId.{StorageId}
use Rattle.px_ops.specs.declared.booking.Booking.{Booking}
use Rattle.px_ops.specs.declared.booking.Booking.TheVariants as booking
use Rattle.px_ops.specs.declared.op.Op.TheVariants as op
use Rattle.px_ops.specs.declared.refusal.Refusal.TheVariants as refusal
use Rattle.px_cluster.specs.Acknowledged.{is_answer, is_answered}
use Rattle.px_cluster.specs.Book.{Replica, Repository, booking_in, booking_on, is_in_doubt, is_in_doubt_under, kept_in, kept_on, replica_on, with_replica_on}
use Rattle.px_cluster.specs.Core.{repository, with_repository_by}
use Rattle.px_cluster.specs.Creating.{lease_lost, unknown_storage}
use Rattle.px_cluster.specs.Jobs.{without_running}
use Rattle.px_cluster.specs.Ledger.{Fencing, fence_answer}
use Rattle.px_cluster.specs.Ops.{refusal_of}
use Rattle.px_cluster.specs.Refusals.{cause}
use Rattle.px_cluster.specs.Repairs.{is_lease, settle_refusal, settled, settled_as}
use Rattle.px_cluster.specs.Step.{settling}
use Rattle.replica_invariant.specs.Booking.{Doubt}
use Rattle.replica_invariant.specs.Repairs.{Tells, booked_at}
use Rattle.replica_invariant.specs.State.{State}
use Rattle.safe_states.specs.Happens.{Settles}
use Rattle.cluster_form.proofs.Induction.{first_none}
use Rattle.cluster_form.proofs.Lists.{bool, same_number, same_self}
use Rattle.cluster_form.proofs.TurnsKept.{first_holds}
use Rattle.cluster_history.specs.Goes.{GoesOn, IsSound}
use Rattle.cluster_history.specs.History.{Whole}
use Rattle.cluster_history.specs.Remembered.{if_known, with_floor_of}
use Rattle.cluster_history.specs.Seen.{seen_booking, state_of}
use Rattle.cluster_history.proofs.Frame.{once, same_replica}
use Rattle.book_steps.proofs.Answered.{answered_purpose, fenced, job_stays}
use Rattle.book_steps.proofs.Asked.{asked_goes}
use Rattle.book_steps.specs.Books.{SettleGoesOn, SettledGoesOn}
use Rattle.book_steps.proofs.OneBook.{Beside, LeavesOthers}
use Rattle.book_steps.proofs.OneReplica.{LeavesReplicas, replica_changes, value_beside, value_of_another, value_there, with_its_floor}
use Rattle.book_steps.proofs.Refusals.{holds, lease_is, replica_known, second_none}
use Rattle.book_steps.proofs.Running.{others_stay, without}

-- ---- what is answered

-- the lease that was committed last
lease_there : (lease : ℕ) (last : Option ℕ) → is_lease lease last ≡ true → last ≡ Some lease
lease_there lease None is = absurd (let z : false ≡ true = is in cc)
lease_there lease (Some last) is = ap Some (same_number last lease is)

-- what is told is what is kept
answer_is : (last : Option ℕ) (answer : Option (Option ℕ)) → is_answer last answer ≡ true
    → answer ≡ Some last
answer_is last None is = absurd (let z : false ≡ true = is in cc)
answer_is None (Some None) is = refl
answer_is None (Some (Some lease)) is = absurd (let z : false ≡ true = is in cc)
answer_is (Some lease) (Some answer) is = ap Some (lease_there lease answer is)

-- ---- a doubt is settled

module _ (whole : Whole) (repo storage lease : ℕ) (last : Option ℕ) (book : Repository)
    (replica : Replica) (sound : IsSound whole)
    (known : repository whole.cluster.core repo ≡ Some book)
    (there : replica_on book storage ≡ Some replica) (kept : kept_on book storage ≡ lease)
    (answer : whole.cluster.ledger repo storage lease ≡ Fencing (Some last)) where
  abbrev st : State
  st = state_of whole repo book

  abbrev Left : Booking → Type 0
  Left booked = GoesOn whole (record {
    cluster = record whole.cluster {
      core = with_repository_by (Some book) repo (with_replica_on storage (settled last))
          (without_running repo storage whole.cluster.core);
    };
    history = with_floor_of whole.history repo storage booked;
  })

  module _ (generation : Gen) where
    abbrev beside : Beside
    beside = record (with_its_floor whole repo storage generation.0) {
      jobs = without repo storage whole.cluster.core.jobs;
    }

    others : LeavesOthers whole repo beside
    others = record {
      job = λ other target differs. others_stay repo storage other target
          (λ same also. differs same) whole.cluster.core.jobs;
      ledger = λ other differs. refl;
      entry = λ other differs. refl;
      floor = value_of_another whole.history.floor repo storage (Some generation.0);
      level = λ other differs. refl;
      had = λ other differs. refl;
    }

    leaves : LeavesReplicas whole repo storage beside
    leaves = record {
      job = λ other differs. others_stay repo storage repo other (λ same also. differs also)
          whole.cluster.core.jobs;
      ledger = λ other under differs. refl;
      floor = value_beside whole.history.floor repo storage (Some generation.0);
      level = λ other differs. refl;
      had = λ other differs. refl;
    }

    -- at a generation that the answer tells of
    settles_at : (under was due : ℕ) → seen_booking replica.booking ≡ Doubt under was due
        → settled_as last replica.booking ≡ booking.At generation
        → Tells last under was due generation.0 → Left (booking.At generation)
    settles_at under was due doubt is tells = replica_changes whole repo storage book replica
        (settled last) book.newest book.last beside there
        (record { storage = λ x. refl; assigned = λ x. refl }) leaves known others
        (whole.history.entry repo) (booked_at (st.replica storage) generation.0) refl
        (same_replica _ (booked_at (st.replica storage) generation.0) (sym (ap kept_in there))
        (ap seen_booking is) (value_there whole.history.floor repo storage (Some generation.0))
        refl refl refl refl (job_stays whole repo storage lease last book sound known kept answer))
        (once st _ (Settles st storage last under was due generation.0 (record {
          purpose = answered_purpose whole repo storage lease last book sound known kept answer;
          booking = ap (λ x. seen_booking (booking_in x)) there ∙ doubt;
          tells = tells;
        })))

  -- by what was committed last
  by_last : (under : ℕ) (was due : Gen) → replica.booking ≡ booking.Doubt under was due
      → Left (settled_as last replica.booking)
  by_last under was due doubt = elim (bool (is_lease under last)) [
    | inl holds ↦ (let is = ap (settled_as last) doubt
        ∙ ap (λ b. if b then booking.At due else booking.At was) holds in
        subst Left (sym is) (settles_at due under was.0 due.0 (ap seen_booking doubt) is
        (inl (lease_there under last holds, refl))))
    | inr fails ↦ (let is = ap (settled_as last) doubt
        ∙ ap (λ b. if b then booking.At due else booking.At was) fails in
        subst Left (sym is) (settles_at was under was.0 due.0 (ap seen_booking doubt) is
        (inr (λ same. differs same fails, refl))))
  ]
    where
      differs : last ≡ Some under → is_lease under last ≡ false → ⊥
      differs same fails = let z : true ≡ false =
          sym (ap (is_lease under) same ∙ same_self under) ∙ fails in cc

  by_booking : (booked : Booking) → replica.booking ≡ booked → is_in_doubt booked ≡ true
      → Left (settled_as last replica.booking)
  by_booking booking.Absent is doubt = absurd (let z : false ≡ true = doubt in cc)
  by_booking (booking.At held) is doubt = absurd (let z : false ≡ true = doubt in cc)
  by_booking (booking.Doubt under was due) is doubt = by_last under was due is

  -- whatever the doubt is
  pub settles : is_in_doubt (booking_on book storage) ≡ true
      → Left (settled_as last (booking_on book storage))
  settles doubt = subst (λ x. Left (settled_as last (booking_in x))) (sym there)
      (by_booking replica.booking refl
      (subst (λ x. is_in_doubt (booking_in x) ≡ true) there doubt))

-- ---- by the book

module _ (whole : Whole) (repo : RepoId) (storage : StorageId) (lease : ℕ) (last : Option ℕ)
    (sound : IsSound whole)
    (answer : whole.cluster.ledger repo.0 storage.0 lease ≡ Fencing (Some last)) where
  by_book : (there : Option Repository) → repository whole.cluster.core repo.0 ≡ there
      → settle_refusal whole.cluster.core there storage.0 lease ≡ None
      → GoesOn whole (record {
        cluster = record whole.cluster {
          core = with_repository_by there repo.0 (with_replica_on storage.0 (settled last))
              (without_running repo.0 storage.0 whole.cluster.core);
        };
        history = if_known whole.history there (λ book. with_floor_of whole.history repo.0 storage.0
            (settled_as last (booking_on book storage.0)));
      })
  by_book None known none = absurd (let z : Some refusal.UnknownRepo ≡ None = none in cc)
  by_book (Some book) known none =
      let first = first_holds (unknown_storage whole.cluster.core book storage.0) _ none in
      let second = first_holds (lease_lost (kept_on book storage.0) lease) _ first.1 in
      let third = first_holds (cause (is_in_doubt_under lease (booking_on book storage.0)) _) _
      second.1 in
      let doubt = is_in_doubt (booking_on book storage.0) in
      let fourth = first_holds (cause (not doubt) refusal.NotInDoubt) _ third.1 in
      let replica = replica_known whole.cluster.core book storage.0 first.0 in
      settles whole repo.0 storage.0 lease last book replica.0 sound known replica.1
      (lease_is (kept_on book storage.0) lease second.0) answer
      (holds doubt refusal.NotInDoubt fourth.0)

pub a_replica_is_settled : SettleGoesOn
a_replica_is_settled repo storage lease last whole sound accepted =
    let asked = op.Settle repo storage lease last in
    let purpose = whole.cluster.ledger repo.0 storage.0 lease in
    let answered = holds (is_answered whole.cluster asked) refusal.NotAcked
    (second_none (refusal_of whole.cluster.core asked) _ accepted) in
    by_book whole repo storage lease last sound
    (fenced purpose last (answer_is last (fence_answer purpose) answered))
    (repository whole.cluster.core repo.0) refl
    (first_none (refusal_of whole.cluster.core asked) _ accepted)

-- ---- by the answer that is kept

pub the_kept_answer_settles : SettledGoesOn
the_kept_answer_settles repo storage lease whole answer new sound is =
    let asked = settling whole.cluster repo storage lease in
    asked_goes asked (a_replica_is_settled _ _ _ _) whole answer new sound is
