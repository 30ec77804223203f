-- A node loses pushes that were ready.
use Rattle.std.proofs.Common.{◌≡◌, ℕ, ◌==◌, List, Bool, true, false, None, if◌then◌else◌, refl, sym, ◌∙◌, ap, subst, inl, inr}
use Rattle.node_calls.specs.ReplicaState.{ReplicaState, without_ready}
use Rattle.px_cluster.specs.Astray.{losing, with_lost}
use Rattle.px_cluster.specs.Book.{Repository, has_replica_on}
use Rattle.replica_invariant.specs.Pushes.{raised}
use Rattle.replica_invariant.specs.State.{Replica, State, with_replica, with_value}
use Rattle.safe_states.specs.Grows.{LeadsTo, Stays}
use Rattle.safe_states.specs.Happens.{Loses}
use Rattle.cluster_form.proofs.Lists.{bool, choose, other_number, same_number}
use Rattle.cluster_history.specs.Goes.{LossGoesOn}
use Rattle.cluster_history.specs.History.{Whole}
use Rattle.cluster_history.specs.Seen.{node_if, replica_of, state_of}
use Rattle.cluster_history.proofs.Frame.{LooksSame, looks_same, once_to, same_functions, same_replica, same_state}
use Rattle.cluster_history.proofs.OneReplica.{value_elsewhere, value_here}
use Rattle.cluster_history.proofs.OneRepository.{each_goes}

module _ (whole : Whole) (storage : ℕ) (test : List ℕ → Bool) where
  -- the cluster after it
  abbrev new : Whole
  new = record { cluster = with_lost whole.cluster storage test; history = whole.history }

  module _ (repo : ℕ) (book : Repository) where
    abbrev old : State
    old = state_of whole repo book

    -- what the node of the storage has of it now
    abbrev left : Bool → ReplicaState
    left lost = if lost then without_ready (whole.cluster.node storage book.path)
        else whole.cluster.node storage book.path

    -- the path passes the test or not
    node_here : (lost : Bool) → test book.path ≡ lost
        → new.cluster.node storage book.path ≡ left lost
    node_here lost is = ap (λ f. f book.path) (value_here whole.cluster.node storage
        (losing (whole.cluster.node storage) test)) ∙ ap left is

    -- each other node has what it had
    node_beside : (x : ℕ) → (x ≡ storage → ⊥)
        → new.cluster.node x book.path ≡ whole.cluster.node x book.path
    node_beside x differs = ap (λ f. f book.path)
        (value_elsewhere whole.cluster.node storage (losing (whole.cluster.node storage) test) x
        differs)

    -- the replica there, without the push that was ready
    abbrev bare : Replica
    bare = raised (old.replica storage) (old.replica storage).node.fence

    -- a push that is lost is seen as lost, also where the storage has no replica
    without_it : (has : Bool) (state : ReplicaState) → node_if has (without_ready state)
        ≡ record (node_if has state) { fence = (node_if has state).fence; ready = None }
    without_it true state = refl
    without_it false state = refl

    -- the replica there is seen so
    replica_here : test book.path ≡ true → replica_of new repo book storage ≡ bare
    replica_here is = same_replica (replica_of new repo book storage) bare refl refl refl
        (ap (node_if (has_replica_on book storage)) (node_here true is)
        ∙ without_it (has_replica_on book storage) (whole.cluster.node storage book.path))
        refl refl refl refl

    -- each other one as it was
    replica_beside : (x : ℕ) → (x ≡ storage → ⊥) → replica_of new repo book x ≡ old.replica x
    replica_beside x differs = same_replica (replica_of new repo book x) (old.replica x)
        refl refl refl (ap (node_if (has_replica_on book x)) (node_beside x differs))
        refl refl refl refl

    replicas : test book.path ≡ true → (x : ℕ)
        → replica_of new repo book x ≡ with_value old.replica storage bare x
    replicas is x = choose (λ w. replica_of new repo book x ≡ w) (x == storage) bare (old.replica x)
        (λ holds. subst (λ y. replica_of new repo book y ≡ bare)
        (sym (same_number x storage holds)) (replica_here is))
        (λ fails. replica_beside x (other_number x storage fails))

    -- it happened to the repository
    loses : test book.path ≡ true → LeadsTo old (state_of new repo book)
    loses is = once_to old (with_replica old storage bare) (state_of new repo book)
        (same_state (state_of new repo book) (with_replica old storage bare) refl refl refl
        (same_functions _ _ (replicas is)) refl) (Loses old storage)

    -- the node keeps what it has of it
    kept : test book.path ≡ false → (x : ℕ)
        → new.cluster.node x book.path ≡ whole.cluster.node x book.path
    kept is x = elim (bool (x == storage)) [
      | inl holds ↦ subst (λ y. new.cluster.node y book.path ≡ whole.cluster.node y book.path)
          (sym (same_number x storage holds)) (node_here false is)
      | inr fails ↦ node_beside x (other_number x storage fails)
    ]

    -- or nothing did
    looks : test book.path ≡ false → LooksSame whole new repo book
    looks is = record {
      admitted = refl;
      node = λ x. ap (node_if (has_replica_on book x)) (kept is x);
      ledger = refl;
      entry = refl;
      text = refl;
      floor = refl;
      level = refl;
      had = refl;
      read_at = refl;
      job = λ x. refl;
      turn = refl;
    }

    stays : test book.path ≡ false → LeadsTo old (state_of new repo book)
    stays is = subst (LeadsTo old) (sym (looks_same whole new repo book (looks is))) (Stays old)

    leads : LeadsTo old (state_of new repo book)
    leads = elim (bool (test book.path)) [
      | inl holds ↦ loses holds
      | inr fails ↦ stays fails
    ]

pub loss_goes : LossGoesOn
loss_goes whole storage test sound = each_goes whole (new whole storage test) refl
    (λ repo book there. leads whole storage test repo book)
