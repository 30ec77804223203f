-- A new factor assigns other storages, and nothing else.
use Rattle.std.proofs.Common.{◌≡◌, ℕ, Option, None, Some, refl, ◌∙◌, ap, is_some}
use Rattle.px_cluster.specs.Book.{Replica, Repository, booking_in, is_assigned, kept_in, replica_on}
use Rattle.px_cluster.specs.Core.{Core, repository, with_repository_by}
use Rattle.px_cluster.specs.Factor.{is_chosen, reassigned}
use Rattle.replica_invariant.specs.State.{State}
use Rattle.safe_states.specs.Happens.{Assigns}
use Rattle.cluster_form.specs.Books.{HasAssigned, IsDense}
use Rattle.cluster_form.proofs.AssignedBooks.{assigned_reassigned}
use Rattle.cluster_form.proofs.DenseBooks.{dense_reassigned}
use Rattle.cluster_form.proofs.Lists.{all_got}
use Rattle.cluster_history.specs.Goes.{GoesOn, IsSound}
use Rattle.cluster_history.specs.History.{Whole}
use Rattle.cluster_history.specs.Seen.{node_if, replica_of, seen_booking, state_of}
use Rattle.cluster_history.proofs.Books.{each_changed}
use Rattle.cluster_history.proofs.Effects.{nothing_goes}
use Rattle.cluster_history.proofs.Frame.{once_to, same_functions, same_replica, same_state}
use Rattle.book_steps.specs.Books.{SetFactorGoesOn}
use Rattle.book_steps.proofs.Assigned.{none_beyond, some_assigned}
use Rattle.book_steps.proofs.OneBook.{as_it_was, leaves_all, rebooked, rebooked_goes}
use Rattle.book_steps.proofs.OneReplica.{there_after}

module _ (whole : Whole) (repo factor : ℕ) (book : Repository) (sound : IsSound whole)
    (known : repository whole.cluster.core repo ≡ Some book) where
  abbrev core : Core
  core = whole.cluster.core

  abbrev now : Repository
  now = reassigned core factor book

  abbrev new : Whole
  new = rebooked whole repo now (as_it_was whole)

  abbrev st : State
  st = state_of whole repo book

  abbrev change : Replica → Replica
  change replica = record replica { assigned = is_chosen core book factor replica }

  -- what does not tell who is assigned is read as it was
  left : {A : Type 0} (read : Option Replica → A)
      → ((x : Replica) → read (Some (change x)) ≡ read (Some x)) → (storage : ℕ)
      → read (replica_on now storage) ≡ read (replica_on book storage)
  left read same storage = ap read (each_changed change (λ x. refl) book storage)
      ∙ there_after read change same (replica_on book storage)

  replica : (storage : ℕ) → replica_of new repo now storage ≡ st.replica storage
  replica storage = same_replica (replica_of new repo now storage) (st.replica storage)
      (left kept_in (λ x. refl) storage)
      (left (λ x. seen_booking (booking_in x)) (λ x. refl) storage) refl
      (ap (λ has. node_if has (whole.cluster.node storage book.path))
      (left (λ x. is_some x) (λ x. refl) storage)) refl refl refl refl

  abbrev then_ : State
  then_ = record st { assigned = is_assigned now }

  here : state_of new repo now ≡ then_
  here = same_state (state_of new repo now) then_ refl refl refl (same_functions _ _ replica) refl

  dense : IsDense core.storages now
  dense = dense_reassigned core factor book
      (all_got (IsDense core.storages) core.repositories repo book sound.form.core.books.dense
      known)

  has : HasAssigned now
  has = assigned_reassigned core book factor
      (all_got HasAssigned core.repositories repo book sound.form.core.books.assigned known)

  factor_goes : GoesOn whole new
  factor_goes = rebooked_goes whole repo book now (as_it_was whole) known (leaves_all whole repo)
      (once_to st then_ (state_of new repo now) here (Assigns st (is_assigned now)
      (some_assigned core.storages now dense has) (none_beyond core.storages now dense)))

pub a_factor_is_set : SetFactorGoesOn
a_factor_is_set repo factor whole sound accepted =
    by (repository whole.cluster.core repo.0) refl
  where
    by : (there : Option Repository) → repository whole.cluster.core repo.0 ≡ there
        → GoesOn whole (record whole {
          cluster = record whole.cluster {
            core = with_repository_by there repo.0 (reassigned whole.cluster.core factor)
                whole.cluster.core;
          };
        })
    by None known = nothing_goes whole
    by (Some book) known = factor_goes whole repo.0 factor book sound known
