-- What a snapshot that is kept under a lease leaves, with the level at which it was read.
use Rattle.std.proofs.Common.{◌≡◌, ℕ, ◌==◌, refl, sym, ◌∙◌, ap, subst, inl, inr}
use Rattle.px_cluster.specs.Book.{Repository}
use Rattle.px_cluster.specs.Cluster.{with_ledger, with_value}
use Rattle.px_cluster.specs.Ledger.{Ledger, source_in, with_purpose, with_snapshot}
use Rattle.px_cluster.specs.Ledger as ledger
use Rattle.replica_invariant.specs.Pushes.{issued}
use Rattle.replica_invariant.specs.State.{Replica, State, with_replica}
use Rattle.safe_states.specs.Grows.{LeadsTo}
use Rattle.cluster_form.proofs.Lists.{bool, choose, other_number, same_number}
use Rattle.cluster_history.specs.Goes.{GoesOn, IsSound}
use Rattle.cluster_history.specs.History.{Whole, with_value_at}
use Rattle.cluster_history.specs.Seen.{replica_of, seen_purpose, state_of}
use Rattle.cluster_history.proofs.Frame.{LooksSame, same_functions, same_replica, same_state}
use Rattle.cluster_history.proofs.OneReplica.{ledger_beside, ledger_here, ledger_other, value_elsewhere, value_here}
use Rattle.cluster_history.proofs.OneRepository.{one_goes}
use Rattle.delivery_steps.proofs.OneDelivery.{Target, replica, state_before}

module _ (whole : Whole) (sound : IsSound whole) (to : Target whole) (kept : ledger.Purpose)
    (level : ℕ) where
  abbrev ledger_now : Ledger
  ledger_now = with_purpose whole.cluster.ledger to.repo to.storage to.lease kept

  abbrev levels_now : ℕ → ℕ → ℕ → ℕ
  levels_now = with_value whole.history.read_at to.repo
      (with_value_at (whole.history.read_at to.repo) to.storage to.lease level)

  abbrev pub new : Whole
  new = record {
    cluster = with_ledger whole.cluster ledger_now;
    history = record whole.history { read_at = levels_now };
  }

  abbrev old : State
  old = state_before whole sound to

  abbrev seen : Replica
  seen = replica whole sound to

  abbrev pub now : Replica
  now = issued seen to.lease (seen_purpose level kept)

  -- the levels that are kept for a storage
  levels_on : (x : ℕ) → levels_now to.repo x
      ≡ with_value_at (whole.history.read_at to.repo) to.storage to.lease level x
  levels_on x = ap (λ f. f x) (value_here whole.history.read_at to.repo
      (with_value_at (whole.history.read_at to.repo) to.storage to.lease level))

  -- under the lease, and elsewhere
  levels_here : levels_now to.repo to.storage
      ≡ with_value (whole.history.read_at to.repo to.storage) to.lease level
  levels_here = levels_on to.storage ∙ value_here (whole.history.read_at to.repo) to.storage
      (with_value (whole.history.read_at to.repo to.storage) to.lease level)

  levels_beside : (x : ℕ) → (x ≡ to.storage → ⊥)
      → levels_now to.repo x ≡ whole.history.read_at to.repo x
  levels_beside x differs = levels_on x ∙ value_elsewhere (whole.history.read_at to.repo) to.storage
      (with_value (whole.history.read_at to.repo to.storage) to.lease level) x differs

  -- a purpose with its level
  both_changed : (l : ℕ) → seen_purpose
      (with_value (whole.history.read_at to.repo to.storage) to.lease level l)
      (with_value (whole.cluster.ledger to.repo to.storage) to.lease kept l)
      ≡ with_value seen.purpose to.lease (seen_purpose level kept) l
  both_changed l = elim (bool (l == to.lease)) [
    | inl holds ↦ (rw holds refl)
    | inr fails ↦ (rw fails refl)
  ]

  -- what each lease was drawn for
  purposes : (l : ℕ) → seen_purpose (levels_now to.repo to.storage l)
      (ledger_now to.repo to.storage l)
      ≡ with_value seen.purpose to.lease (seen_purpose level kept) l
  purposes l = (λ i. seen_purpose (levels_here i l)
      (ledger_here whole.cluster.ledger to.repo to.storage to.lease kept l i)) ∙ both_changed l

  -- the replica keeps it under the lease
  replica_here : replica_of new to.repo to.book to.storage ≡ now
  replica_here = same_replica (replica_of new to.repo to.book to.storage) now
      refl refl refl refl refl refl (same_functions _ _ purposes) refl

  -- each other one is as it was
  replica_beside : (x : ℕ) → (x ≡ to.storage → ⊥)
      → replica_of new to.repo to.book x ≡ old.replica x
  replica_beside x differs = same_replica (replica_of new to.repo to.book x) (old.replica x)
      refl refl refl refl refl refl
      (λ i l. seen_purpose (levels_beside x differs i l)
      (ledger_beside whole.cluster.ledger to.repo to.storage to.lease kept x l differs i)) refl

  replicas : (x : ℕ) → replica_of new to.repo to.book x ≡ with_value old.replica to.storage now x
  replicas x = choose (λ w. replica_of new to.repo to.book x ≡ w) (x == to.storage) now
      (old.replica x)
      (λ holds. subst (λ y. replica_of new to.repo to.book y ≡ now)
      (sym (same_number x to.storage holds)) replica_here)
      (λ fails. replica_beside x (other_number x to.storage fails))

  -- so is all else of the repository
  here : state_of new to.repo to.book ≡ with_replica old to.storage now
  here = same_state (state_of new to.repo to.book) (with_replica old to.storage now) refl refl refl
      (same_functions _ _ replicas) refl

  -- and each other repository
  others : (other : ℕ) (b : Repository) → (other ≡ to.repo → ⊥) → LooksSame whole new other b
  others other b differs = record {
    admitted = refl;
    node = λ x. refl;
    ledger = ledger_other whole.cluster.ledger to.repo to.storage to.lease kept other differs;
    entry = refl;
    text = refl;
    floor = refl;
    level = refl;
    had = refl;
    read_at = value_elsewhere whole.history.read_at to.repo _ other differs;
    job = λ x. refl;
    turn = refl;
  }

  -- it is enough to know where that leads
  pub kept_goes : LeadsTo old (with_replica old to.storage now) → GoesOn whole new
  kept_goes leads = one_goes whole new refl to.repo to.book to.known
      (λ other b differs is. others other b differs) (subst (LeadsTo old) (sym here) leads)
