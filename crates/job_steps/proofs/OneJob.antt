-- An event of one job: the replica of its target changes in the book, and with it the last lease,
-- the queue, what leases were drawn for at the target, and its floor. Each other replica is seen as
-- it was.
use Rattle.std.proofs.Common.{◌≡◌, ◌==◌, ℕ, true, List, Option, Some, refl, sym, ◌∙◌, ap, subst, inl, inr, find, is_some}
use Rattle.std.specs.Option.{option_map}
use Rattle.px_ops.specs.declared.job.Job.{Job}
use Rattle.px_cluster.specs.Book.{Replica as BookReplica, Repository, booking_in, has_replica_on, is_assigned, is_assigned_in, kept_in, replica_on}
use Rattle.px_cluster.specs.Cluster.{Destination}
use Rattle.px_cluster.specs.Core.{repository, with_repository}
use Rattle.px_cluster.specs.Jobs.{is_for}
use Rattle.px_cluster.specs.Ledger.{Ledger}
use Rattle.replica_invariant.specs.State.{Replica, State, with_value}
use Rattle.safe_states.specs.Grows.{LeadsTo}
use Rattle.cluster_form.proofs.Lists.{bool, choose, other_number, same_number}
use Rattle.cluster_history.specs.Goes.{GoesOn}
use Rattle.cluster_history.specs.History.{Whole}
use Rattle.cluster_history.specs.Seen.{job_for, node_if, replica_of, seen_booking, seen_job, seen_purpose, state_of}
use Rattle.cluster_history.proofs.Frame.{LooksSame, same_functions, same_replica, same_state}
use Rattle.cluster_history.proofs.OneRepository.{book_goes}

-- what becomes of the repository and of the cluster, and of the replica of the target in the book
pub record Change : Type 0 where
  pub last : ℕ
  pub replicas : List BookReplica
  pub replica : BookReplica
  pub jobs : List Job
  pub ledger : Ledger
  pub worked : ℕ → Option Destination
  pub floor : ℕ → ℕ → Option ℕ

-- ---- where it leads

module _ (old : Whole) (r t : ℕ) (book : Repository) (change : Change) where
  abbrev pub book_after : Repository
  book_after = record book { last = change.last; replicas = change.replicas }

  abbrev pub whole_after : Whole
  whole_after = record {
    cluster = record old.cluster {
      core = record (with_repository r book_after old.cluster.core) { jobs = change.jobs };
      ledger = change.ledger;
      worked = change.worked;
    };
    history = record old.history { floor = change.floor };
  }

  abbrev pub replica_after : Replica
  replica_after = record ((state_of old r book).replica t) {
    kept = change.replica.kept;
    booking = seen_booking change.replica.booking;
    floor = change.floor r t;
    purpose = λ lease. seen_purpose (old.history.read_at r t lease) (change.ledger r t lease);
    job = job_for whole_after.cluster.core r t;
  }

  abbrev pub state_after : State
  state_after = record (state_of old r book) {
    shared = record (state_of old r book).shared { last = change.last };
    replica = with_value (state_of old r book).replica t replica_after;
  }

  -- ---- all else is as it was

  pub record IsOfOne : Type 0 where
    pub here : replica_on book_after t ≡ Some change.replica
    pub elsewhere : (x : ℕ) → (x ≡ t → ⊥) → replica_on book_after x ≡ replica_on book x
    pub there : has_replica_on book t ≡ true
    pub assigned : change.replica.assigned ≡ is_assigned book t
    pub jobs : (x y : ℕ) → (x ≡ r → y ≡ t → ⊥)
        → find (is_for x y) change.jobs ≡ find (is_for x y) old.cluster.core.jobs
    pub ledgers : (x : ℕ) → (x ≡ r → ⊥) → change.ledger x ≡ old.cluster.ledger x
    pub uses : (x : ℕ) → (x ≡ t → ⊥) → change.ledger r x ≡ old.cluster.ledger r x
    pub floors : (x : ℕ) → (x ≡ r → ⊥) → change.floor x ≡ old.history.floor x
    pub floors_here : (x : ℕ) → (x ≡ t → ⊥) → change.floor r x ≡ old.history.floor r x

  module _ (is : IsOfOne) where
    -- other repositories
    others : (other : ℕ) (b : Repository) → (other ≡ r → ⊥)
        → repository old.cluster.core other ≡ Some b → LooksSame old whole_after other b
    others other b differs known = record {
      admitted = refl;
      node = λ x. refl;
      ledger = is.ledgers other differs;
      entry = refl;
      text = refl;
      floor = is.floors other differs;
      level = refl;
      had = refl;
      read_at = refl;
      job = λ x. ap (option_map seen_job) (is.jobs other x (λ same also. differs same));
      turn = refl;
    }

    -- what is assigned
    assigned_at : (x : ℕ) → is_assigned book_after x ≡ is_assigned book x
    assigned_at x = elim (bool (x == t)) [
      | inl holds ↦ (subst (λ y. is_assigned book_after y ≡ is_assigned book y)
          (sym (same_number x t holds)) (ap is_assigned_in is.here ∙ is.assigned))
      | inr fails ↦ ap is_assigned_in (is.elsewhere x (other_number x t fails))
    ]

    -- the target
    replica_here : replica_of whole_after r book_after t ≡ replica_after
    replica_here = same_replica (replica_of whole_after r book_after t) replica_after
        (ap kept_in is.here) (ap (λ (o : Option BookReplica). seen_booking (booking_in o)) is.here)
        refl
        (ap (λ has. node_if has (old.cluster.node t book.path))
        (ap (λ (o : Option BookReplica). is_some o) is.here ∙ sym is.there))
        refl refl refl refl

    -- other replicas
    replica_beside : (x : ℕ) → (x ≡ t → ⊥)
        → replica_of whole_after r book_after x ≡ (state_of old r book).replica x
    replica_beside x differs = let same = is.elsewhere x differs in
        same_replica (replica_of whole_after r book_after x) ((state_of old r book).replica x)
        (ap kept_in same) (ap (λ (o : Option BookReplica). seen_booking (booking_in o)) same)
        (is.floors_here x differs)
        (ap (λ (o : Option BookReplica). node_if (is_some o) (old.cluster.node x book.path)) same)
        refl refl (same_functions _ _ (λ l. ap (seen_purpose (old.history.read_at r x l))
        (ap (λ f. f l) (is.uses x differs))))
        (ap (option_map seen_job) (is.jobs r x (λ same also. differs also)))

    -- all replicas
    replicas : (x : ℕ) → replica_of whole_after r book_after x
        ≡ with_value (state_of old r book).replica t replica_after x
    replicas x = choose (λ w. replica_of whole_after r book_after x ≡ w) (x == t) replica_after
        ((state_of old r book).replica x)
        (λ holds. subst (λ y. replica_of whole_after r book_after y ≡ replica_after)
        (sym (same_number x t holds)) replica_here)
        (λ fails. replica_beside x (other_number x t fails))

    -- the repository
    seen_after : state_of whole_after r book_after ≡ state_after
    seen_after = same_state (state_of whole_after r book_after) state_after refl refl
        (same_functions _ _ assigned_at) (same_functions _ _ replicas) refl

    -- it is enough to know where that leads
    pub job_goes : repository old.cluster.core r ≡ Some book
        → LeadsTo (state_of old r book) state_after → GoesOn old whole_after
    job_goes known leads = book_goes old whole_after r book book_after known refl others
        (subst (LeadsTo (state_of old r book)) (sym seen_after) leads)
