-- Who is assigned to a repository that is created: the storages that were chosen for it.
use Rattle.std.proofs.Common.{◌≡◌, ◌==◌, ◌+◌, ◌≤◌, ℕ, zero, suc, List, [], ◌∷◌, true, false, Option, None, Some, refl, sym, ◌∙◌, ap, inl, inr, is_some, length, take, if◌then◌else◌}
use Rattle.std.specs.Option.{option_map}
use Rattle.px_cluster.specs.Book.{Replica, Repository, is_assigned, is_assigned_in, kept_in, kept_on, replica_on, storages_of}
use Rattle.px_cluster.specs.Core.{Core}
use Rattle.px_cluster.specs.Creating.{assigned_for, assigned_under, created_on, factor_for}
use Rattle.px_cluster.specs.Numbers.{is_one_of}
use Rattle.cluster_form.specs.Books.{IsDense}
use Rattle.cluster_form.proofs.AssignedBooks.{assigned_created}
use Rattle.cluster_form.proofs.DenseBooks.{dense_created}
use Rattle.cluster_form.proofs.Lists.{bool}
use Rattle.cluster_history.proofs.Books.{each_changed, found_on, there_is_one}
use Rattle.book_steps.proofs.Assigned.{none_beyond, some_assigned}
use Rattle.book_steps.proofs.OneReplica.{there_after}

-- each of the first numbers is one of all
first_of_all : (n : ℕ) (xs : List ℕ) (x : ℕ) → is_one_of x (take n xs) ≡ true
    → is_one_of x xs ≡ true
first_of_all zero xs x is = absurd (let z : false ≡ true = is in cc)
first_of_all (suc n) [] x is = absurd (let z : false ≡ true = is in cc)
first_of_all (suc n) (y ∷ ys) x is = elim (bool (y == x)) [
  | inl holds ↦ (rw holds refl)
  | inr fails ↦ (rw fails (first_of_all n ys x (rw fails at is)))
]

-- a storage that is chosen is of the virtual storage
chosen_is : (core : Core) (virt : List ℕ) (factor storage : ℕ)
    → is_one_of storage (assigned_for core virt factor) ≡ true
    → is_one_of storage (storages_of core.storages virt) ≡ true
chosen_is core virt factor storage is = elim (bool (factor_for core virt factor == 0)) [
  | inl holds ↦ (rw holds at is)
  | inr fails ↦ first_of_all (factor_for core virt factor) _ storage (rw fails at is)
]

module _ (core : Core) (virt : List ℕ) (factor : ℕ) (book : Repository)
    (dense : IsDense core.storages book) (of_virt : book.virt ≡ virt) where
  abbrev chosen : List ℕ
  chosen = assigned_for core virt factor

  abbrev lease : ℕ
  lease = book.last + 1

  abbrev now : Repository
  now = created_on chosen book

  -- where there is no replica, none was chosen
  unchosen : (storage : ℕ) → replica_on book storage ≡ None → is_one_of storage chosen ≡ false
  unchosen storage none = elim (bool (is_one_of storage chosen)) [
    | inl holds ↦ absurd (let z : true ≡ false =
        sym (chosen_is core virt factor storage holds)
        ∙ ap (λ v. is_one_of storage (storages_of core.storages v)) (sym of_virt)
        ∙ ap (is_one_of storage) (sym dense) ∙ sym (there_is_one storage book.replicas)
        ∙ ap (λ x. is_some x) none in cc)
    | inr fails ↦ fails
  ]

  on_now : (storage : ℕ) → replica_on now storage
      ≡ option_map (assigned_under chosen lease) (replica_on book storage)
  on_now storage = each_changed (assigned_under chosen lease) (λ x. refl)
      (record book { last = lease; creation = lease }) storage

  -- what tells neither who is assigned nor a lease is read as it was
  pub left : {A : Type 0} (read : Option Replica → A)
      → ((x : Replica) → read (Some (assigned_under chosen lease x)) ≡ read (Some x))
      → (storage : ℕ) → read (replica_on now storage) ≡ read (replica_on book storage)
  left read same storage = ap read (on_now storage)
      ∙ there_after read (assigned_under chosen lease) same (replica_on book storage)

  -- those are assigned that were chosen
  pub chosen_now : (storage : ℕ) → is_assigned now storage ≡ is_one_of storage chosen
  chosen_now storage = by (replica_on book storage) refl
    where
      by : (there : Option Replica) → replica_on book storage ≡ there
          → is_assigned now storage ≡ is_one_of storage chosen
      by None at = ap is_assigned_in (on_now storage ∙ ap (option_map _) at)
          ∙ sym (unchosen storage at)
      by (Some x) at = ap is_assigned_in (on_now storage ∙ ap (option_map _) at)
          ∙ ap (λ n. is_one_of n chosen) (found_on storage book.replicas x at)

  -- they keep the lease
  pub kept_now : (storage : ℕ) → kept_on now storage
      ≡ (if is_one_of storage chosen then lease else kept_on book storage)
  kept_now storage = by (replica_on book storage) refl
    where
      by : (there : Option Replica) → replica_on book storage ≡ there → kept_on now storage
          ≡ (if is_one_of storage chosen then lease else kept_on book storage)
      by None at = ap kept_in (on_now storage ∙ ap (option_map _) at)
          ∙ sym (ap (λ b. if b then lease else kept_on book storage) (unchosen storage at)
          ∙ ap kept_in at)
      by (Some x) at = ap kept_in (on_now storage ∙ ap (option_map _) at)
          ∙ ap (λ n. if is_one_of n chosen then lease else x.kept)
          (found_on storage book.replicas x at)
          ∙ sym (ap (λ y. if is_one_of storage chosen then lease else kept_in y) at)

  -- some storage is chosen, and none that is not admitted yet
  pub some_chosen : (length (storages_of core.storages virt) == 0) ≡ false
      → (storage : ℕ) × (is_one_of storage chosen ≡ true)
  some_chosen some =
      let has = some_assigned core.storages now (dense_created core.storages chosen book dense)
      (assigned_created core virt factor book (dense ∙ ap (storages_of core.storages) of_virt)
      some) in
      (has.0, sym (chosen_now has.0) ∙ has.1)

  pub none_chosen : (storage : ℕ) → length core.storages ≤ storage
      → is_one_of storage chosen ≡ false
  none_chosen storage beyond = sym (chosen_now storage)
      ∙ none_beyond core.storages now (dense_created core.storages chosen book dense) storage beyond
