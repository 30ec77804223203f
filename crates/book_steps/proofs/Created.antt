-- A repository that is created, first or again, is seen as created.
use Rattle.std.proofs.Common.{◌≡◌, ◌==◌, ◌+◌, ◌&&◌, ℕ, List, Bool, true, false, refl, ◌∙◌, ap, inl, inr, is_some, if◌then◌else◌}
use Rattle.px_cluster.specs.Book.{Repository, booking_in, kept_on}
use Rattle.px_cluster.specs.Core.{Core}
use Rattle.px_cluster.specs.Creating.{assigned_for, created_on}
use Rattle.px_cluster.specs.Ledger.{Creation, Ledger, Purpose, with_purposes}
use Rattle.px_cluster.specs.Numbers.{is_one_of}
use Rattle.replica_invariant.specs.Creations.{created, drawn}
use Rattle.replica_invariant.specs.Purposes.{Creation as SeenCreation, Purpose as SeenPurpose}
use Rattle.replica_invariant.specs.State.{State}
use Rattle.cluster_form.proofs.Lists.{bool, choose, same_number, same_self}
use Rattle.cluster_form.specs.Books.{IsDense}
use Rattle.cluster_history.specs.History.{Whole}
use Rattle.cluster_history.specs.Seen.{node_if, replica_of, seen_booking, seen_purpose, state_of}
use Rattle.cluster_history.proofs.Frame.{same_functions, same_replica, same_state}
use Rattle.cluster_history.proofs.OneReplica.{purpose_seen}
use Rattle.book_steps.proofs.Chosen.{chosen_now, kept_now, left}

-- ---- the purpose of one lease, at some storages of a repository

module _ (ledger : Ledger) (repo under : ℕ) (test : ℕ → Bool) (purpose : Purpose) where
  abbrev drawn_at : Ledger
  drawn_at = with_purposes ledger repo test under (λ storage old. purpose)

  -- another repository has the purposes that it had
  pub drawn_elsewhere : (other : ℕ) → (other ≡ repo → ⊥) → drawn_at other ≡ ledger other
  drawn_elsewhere other differs = elim (bool (other == repo)) [
    | inl holds ↦ absurd (differs (same_number other repo holds))
    | inr fails ↦ (λ i s l. ap (λ (b : Bool). if b && test s && (l == under)
        then purpose else ledger other s l) fails i)
  ]

  at_repo : (s l : ℕ) → drawn_at repo s l
      ≡ (if test s && (l == under) then purpose else ledger repo s l)
  at_repo s l = ap (λ (b : Bool). if b && test s && (l == under) then purpose else ledger repo s l)
      (same_self repo)

  drawn_here : (s l : ℕ) → test s ≡ true
      → drawn_at repo s l ≡ (if l == under then purpose else ledger repo s l)
  drawn_here s l is = at_repo s l
      ∙ ap (λ (b : Bool). if b && (l == under) then purpose else ledger repo s l) is

  not_drawn : (s l : ℕ) → test s ≡ false → drawn_at repo s l ≡ ledger repo s l
  not_drawn s l is = at_repo s l
      ∙ ap (λ (b : Bool). if b && (l == under) then purpose else ledger repo s l) is

-- ---- the repository

module _ (whole : Whole) (repo : ℕ) (virt : List ℕ) (factor : ℕ) (book : Repository)
    (books : List Repository) (reads : List ℕ) where
  abbrev core : Core
  core = whole.cluster.core

  abbrev pub chosen : ℕ → Bool
  chosen storage = is_one_of storage (assigned_for core virt factor)

  abbrev lease : ℕ
  lease = book.last + 1

  abbrev pub now : Repository
  now = created_on (assigned_for core virt factor) book

  -- the books, and how many reads were routed, may be any beside
  abbrev pub new : Whole
  new = record whole {
    cluster = record whole.cluster {
      core = record core { repositories = books; reads = reads };
      ledger = with_purposes whole.cluster.ledger repo chosen lease (λ storage old. Creation false);
    };
  }

  abbrev st : State
  st = state_of whole repo book

  module _ (dense : IsDense core.storages book) (of_virt : book.virt ≡ virt) where
    -- but for its last lease and for purposes a replica is seen as it was
    as_seen : (storage kept : ℕ) (purpose : ℕ → SeenPurpose) → kept_on now storage ≡ kept
        → ((l : ℕ) → (replica_of new repo now storage).purpose l ≡ purpose l)
        → replica_of new repo now storage
        ≡ record (st.replica storage) { kept = kept; purpose = purpose }
    as_seen storage kept purpose keeps purposes = same_replica (replica_of new repo now storage)
        (record (st.replica storage) { kept = kept; purpose = purpose }) keeps
        (left core virt factor book dense of_virt (λ x. seen_booking (booking_in x)) (λ x. refl)
        storage) refl
        (ap (λ has. node_if has (whole.cluster.node storage book.path))
        (left core virt factor book dense of_virt (λ x. is_some x) (λ x. refl) storage))
        refl refl (same_functions _ _ purposes) refl

    abbrev level : ℕ → ℕ → ℕ
    level storage l = whole.history.read_at repo storage l

    replica : (storage : ℕ)
        → replica_of new repo now storage ≡ (created st chosen).replica storage
    replica storage = choose (λ x. replica_of new repo now storage ≡ x) (chosen storage)
        (drawn (st.replica storage) lease (SeenCreation false)) (st.replica storage)
        (λ holds. as_seen storage lease _
        (kept_now core virt factor book dense of_virt storage
        ∙ ap (λ b. if b then lease else kept_on book storage) holds)
        (λ l. ap (seen_purpose (level storage l))
        (drawn_here whole.cluster.ledger repo lease chosen (Creation false) storage l holds)
        ∙ purpose_seen (level storage) (whole.cluster.ledger repo storage) lease (Creation false)
        l))
        (λ fails. as_seen storage (kept_on book storage) (st.replica storage).purpose
        (kept_now core virt factor book dense of_virt storage
        ∙ ap (λ b. if b then lease else kept_on book storage) fails)
        (λ l. ap (seen_purpose (level storage l))
        (not_drawn whole.cluster.ledger repo lease chosen (Creation false) storage l fails)))

    -- the repository is seen as its creation leaves it
    pub created_is : state_of new repo now ≡ created st chosen
    created_is = same_state (state_of new repo now) (created st chosen) refl refl
        (same_functions _ _ (chosen_now core virt factor book dense of_virt))
        (same_functions _ _ replica) refl
