-- An event that changes one replica of a book, and beside it the queue, the ledger and the history
-- at that replica: how the repository is seen after it.
use Rattle.std.proofs.Common.{◌≡◌, ℕ, ◌==◌, Option, None, Some, refl, sym, ◌∙◌, ap, subst, inl, inr, find, is_some}
use Rattle.std.specs.Option.{option_map}
use Rattle.px_cluster.specs.Book.{Replica, Repository, booking_in, has_replica_on, is_assigned, is_assigned_in, kept_in, replica_on, with_replica_on}
use Rattle.px_cluster.specs.Core.{repository}
use Rattle.px_cluster.specs.Jobs.{is_for}
use Rattle.replica_invariant.specs.State.{Entry, Replica as SeenReplica, Shared, State, with_value}
use Rattle.safe_states.specs.Grows.{LeadsTo}
use Rattle.cluster_form.proofs.Lists.{bool, choose, other_number, same_number}
use Rattle.cluster_history.specs.Goes.{GoesOn}
use Rattle.cluster_history.specs.History.{Whole, with_value_at}
use Rattle.cluster_history.specs.Seen.{node_if, replica_of, seen_booking, seen_job, seen_purpose, state_of}
use Rattle.cluster_history.proofs.Books.{KeepsStorage, changed_elsewhere, changed_here}
use Rattle.cluster_history.proofs.Frame.{same_functions, same_replica, same_state}
use Rattle.cluster_history.proofs.OneReplica.{value_elsewhere, value_here}
use Rattle.book_steps.proofs.OneBook.{Beside, LeavesOthers, as_it_was, rebooked, rebooked_goes}

-- at each other replica of the repository it is as it was
pub record LeavesReplicas (whole : Whole) (repo storage : ℕ) (beside : Beside) : Type 0 where
  pub job : (other : ℕ) → (other ≡ storage → ⊥)
      → find (is_for repo other) beside.jobs ≡ find (is_for repo other) whole.cluster.core.jobs
  pub ledger : (other lease : ℕ) → (other ≡ storage → ⊥)
      → beside.ledger repo other lease ≡ whole.cluster.ledger repo other lease
  pub floor : (other : ℕ) → (other ≡ storage → ⊥)
      → beside.floor repo other ≡ whole.history.floor repo other
  pub level : (other : ℕ) → (other ≡ storage → ⊥)
      → beside.level repo other ≡ whole.history.level repo other
  pub had : (other : ℕ) → (other ≡ storage → ⊥)
      → beside.had repo other ≡ whole.history.had repo other

-- where nothing changes, it is
pub leaves_replicas : (whole : Whole) (repo storage : ℕ)
    → LeavesReplicas whole repo storage (as_it_was whole)
leaves_replicas whole repo storage = record {
  job = λ other differs. refl;
  ledger = λ other lease differs. refl;
  floor = λ other differs. refl;
  level = λ other differs. refl;
  had = λ other differs. refl;
}

-- ---- a value of one replica

module _ {A : Type 0} (f : ℕ → ℕ → A) (repo storage : ℕ) (value : A) where
  pub value_of_another : (other : ℕ) → (other ≡ repo → ⊥)
      → with_value_at f repo storage value other ≡ f other
  value_of_another other differs = value_elsewhere f repo _ other differs

  pub value_beside : (other : ℕ) → (other ≡ storage → ⊥)
      → with_value_at f repo storage value repo other ≡ f repo other
  value_beside other differs = ap (λ g. g other) (value_here f repo _)
      ∙ value_elsewhere (f repo) storage value other differs

  pub value_there : with_value_at f repo storage value repo storage ≡ value
  value_there = ap (λ g. g storage) (value_here f repo _) ∙ value_here (f repo) storage value

-- ---- a floor

abbrev pub with_its_floor : Whole → ℕ → ℕ → ℕ → Beside
with_its_floor whole repo storage generation = record (as_it_was whole) {
  floor = with_value_at whole.history.floor repo storage (Some generation);
}

module _ (whole : Whole) (repo storage generation : ℕ) where
  pub floor_leaves_others : LeavesOthers whole repo (with_its_floor whole repo storage generation)
  floor_leaves_others = record {
    job = λ other target differs. refl;
    ledger = λ other differs. refl;
    entry = λ other differs. refl;
    floor = value_of_another whole.history.floor repo storage (Some generation);
    level = λ other differs. refl;
    had = λ other differs. refl;
  }

  pub floor_leaves_replicas :
      LeavesReplicas whole repo storage (with_its_floor whole repo storage generation)
  floor_leaves_replicas = record {
    job = λ other differs. refl;
    ledger = λ other lease differs. refl;
    floor = value_beside whole.history.floor repo storage (Some generation);
    level = λ other differs. refl;
    had = λ other differs. refl;
  }

-- ---- one replica changes

-- the change of a replica leaves its storage, and whether that is assigned
pub record LeavesAssigned (change : Replica → Replica) : Type 0 where
  pub storage : KeepsStorage change
  pub assigned : (replica : Replica) → (change replica).assigned ≡ replica.assigned

-- what is read of a replica, where there is one
pub there_after : {A : Type 0} (read : Option Replica → A) (change : Replica → Replica)
    → ((replica : Replica) → read (Some (change replica)) ≡ read (Some replica))
    → (there : Option Replica) → read (option_map change there) ≡ read there
there_after read change same None = refl
there_after read change same (Some replica) = same replica

module _ (whole : Whole) (repo storage : ℕ) (book : Repository) (replica : Replica)
    (change : Replica → Replica) (newest last : ℕ) (beside : Beside) where
  abbrev head : Repository
  head = record book { newest = newest; last = last }

  abbrev pub now : Repository
  now = with_replica_on storage change head

  abbrev st : State
  st = state_of whole repo book

  -- the replica as it is seen after the event
  abbrev pub seen : SeenReplica
  seen = record {
    kept = (change replica).kept;
    booking = seen_booking (change replica).booking;
    floor = beside.floor repo storage;
    node = (st.replica storage).node;
    level = beside.level repo storage;
    had = beside.had repo storage;
    purpose = λ lease. seen_purpose (whole.history.read_at repo storage lease)
        (beside.ledger repo storage lease);
    job = option_map seen_job (find (is_for repo storage) beside.jobs);
  }

  -- .. and the repository
  abbrev pub changed_to : (ℕ → Entry) → SeenReplica → State
  changed_to entry after = record st {
    shared = record st.shared { newest = newest; last = last; entry = entry };
    replica = with_value st.replica storage after;
  }

  module _ (there : replica_on book storage ≡ Some replica) (keeps : LeavesAssigned change)
      (leaves : LeavesReplicas whole repo storage beside) where
    abbrev new : Whole
    new = rebooked whole repo now beside

    on_here : replica_on now storage ≡ Some (change replica)
    on_here = changed_here change keeps.storage head storage ∙ ap (option_map change) there

    on_other : (other : ℕ) → (other ≡ storage → ⊥) → replica_on now other ≡ replica_on book other
    on_other other differs = changed_elsewhere change keeps.storage head storage other differs

    -- what the change leaves of every replica
    left : {A : Type 0} (read : Option Replica → A)
        → ((x : Replica) → read (Some (change x)) ≡ read (Some x)) → (other : ℕ)
        → read (replica_on now other) ≡ read (replica_on book other)
    left read same other = elim (bool (other == storage)) [
      | inl holds ↦ (subst (λ x. read (replica_on now x) ≡ read (replica_on book x))
          (sym (same_number other storage holds))
          (ap read (changed_here change keeps.storage head storage)
          ∙ there_after read change same (replica_on book storage)))
      | inr fails ↦ ap read (on_other other (other_number other storage fails))
    ]

    node : (other : ℕ) → node_if (has_replica_on now other) (whole.cluster.node other now.path)
        ≡ node_if (has_replica_on book other) (whole.cluster.node other book.path)
    node other = ap (λ has. node_if has (whole.cluster.node other book.path))
        (left (λ x. is_some x) (λ x. refl) other)

    replica_here : replica_of new repo now storage ≡ seen
    replica_here = same_replica (replica_of new repo now storage) seen (ap kept_in on_here)
        (ap (λ x. seen_booking (booking_in x)) on_here) refl (node storage) refl refl refl refl

    replica_beside : (other : ℕ) → (other ≡ storage → ⊥)
        → replica_of new repo now other ≡ st.replica other
    replica_beside other differs = same_replica (replica_of new repo now other) (st.replica other)
        (ap kept_in (on_other other differs))
        (ap (λ x. seen_booking (booking_in x)) (on_other other differs))
        (leaves.floor other differs) (node other) (leaves.level other differs)
        (leaves.had other differs)
        (same_functions _ _ (λ lease. ap (seen_purpose (whole.history.read_at repo other lease))
        (leaves.ledger other lease differs)))
        (ap (option_map seen_job) (leaves.job other differs))

    replicas : (other : ℕ)
        → replica_of new repo now other ≡ with_value st.replica storage seen other
    replicas other = choose (λ x. replica_of new repo now other ≡ x) (other == storage) seen
        (st.replica other)
        (λ holds. subst (λ x. replica_of new repo now x ≡ seen)
        (sym (same_number other storage holds)) replica_here)
        (λ fails. replica_beside other (other_number other storage fails))

    assigned : (other : ℕ) → is_assigned now other ≡ is_assigned book other
    assigned other = left is_assigned_in keeps.assigned other

    here : (entry : ℕ → Entry) (after : SeenReplica) → beside.entry repo ≡ entry → seen ≡ after
        → state_of new repo now ≡ changed_to entry after
    here entry after entries same = same_state (state_of new repo now) (changed_to entry after)
        (ap (λ x. let shared : Shared = record st.shared {
          newest = newest;
          last = last;
          entry = x;
        } in shared) entries) refl (same_functions _ _ assigned)
        (same_functions _ _ replicas ∙ ap (with_value st.replica storage) same) refl

    -- so it is enough to know where that leads
    pub replica_changes : repository whole.cluster.core repo ≡ Some book
        → LeavesOthers whole repo beside → (entry : ℕ → Entry) (after : SeenReplica)
        → beside.entry repo ≡ entry → seen ≡ after → LeadsTo st (changed_to entry after)
        → GoesOn whole new
    replica_changes known others entry after entries same leads =
        rebooked_goes whole repo book now beside known others
        (subst (LeadsTo st) (sym (here entry after entries same)) leads)
