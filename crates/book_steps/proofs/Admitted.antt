-- A storage is admitted: each repository of its virtual storage has a replica more, and what the
-- node has of its path appears there.
use Rattle.std.proofs.Common.{◌≡◌, ◌==◌, ◌+◌, ℕ, List, [], ◌∷◌, ◌++◌, Bool, true, false, Option, None, Some, refl, sym, ◌∙◌, ap, subst, inl, inr, find, is_some, length, if◌then◌else◌, arith}
use Rattle.std.specs.Option.{option_map}
use Rattle.std.specs.Str.{bytes_eq}
use Rattle.std.proofs.lemmas.List.{length-append}
use Rattle.std.proofs.lemmas.Option.{slice_get-map}
use Rattle.px_cluster.specs.Book.{Replica, Repository, booking_in, has_replica_on, is_assigned_in, is_on, kept_in, replica_on}
use Rattle.px_cluster.specs.Core.{Core, repository}
use Rattle.px_cluster.specs.Creating.{admitted, unrecorded, with_storage}
use Rattle.replica_invariant.specs.Creations.{with_node}
use Rattle.replica_invariant.specs.State.{AtNode, State, with_replica}
use Rattle.safe_states.specs.Grows.{LeadsTo, Then}
use Rattle.safe_states.specs.Happens.{Admits, Appears}
use Rattle.cluster_form.specs.Books.{IsDense}
use Rattle.cluster_form.proofs.Lists.{all_got, bool, choose, if_kept, other_number, same_number, same_self}
use Rattle.cluster_history.specs.Goes.{Goes, GoesOn, IsNobodys, IsSound}
use Rattle.cluster_history.specs.History.{Whole}
use Rattle.cluster_history.specs.Seen.{node_if, replica_of, seen_booking, state_of}
use Rattle.cluster_history.proofs.Frame.{once, same_functions, same_replica, same_shared, same_state}
use Rattle.book_steps.specs.Books.{AdmitGoesOn}
use Rattle.book_steps.proofs.Assigned.{replica_below}
use Rattle.book_steps.proofs.Before.{from_before}
use Rattle.book_steps.proofs.OneBook.{has_invariant}

-- ---- what is found in a list with one replica more

-- another replica is found as it was
found_before : (replicas : List Replica) (new : Replica) (storage : ℕ)
    → (new.storage == storage) ≡ false
    → find (is_on storage) (replicas ++ new ∷ []) ≡ find (is_on storage) replicas
found_before [] new storage differs = rw differs refl
found_before (r ∷ rs) new storage differs = elim (bool (r.storage == storage)) [
  | inl holds ↦ (rw holds refl)
  | inr fails ↦ (rw fails (found_before rs new storage differs))
]

-- .. and the new one on its storage
found_last : (replicas : List Replica) (new : Replica) → find (is_on new.storage) replicas ≡ None
    → find (is_on new.storage) (replicas ++ new ∷ []) ≡ Some new
found_last [] new none = rw (same_self new.storage) refl
found_last (r ∷ rs) new none = elim (bool (r.storage == new.storage)) [
  | inl holds ↦ absurd (let z : Some r ≡ None = rw holds at none in cc)
  | inr fails ↦ (rw fails (found_last rs new (rw fails at none)))
]

not_there : (there : Option Replica) → is_some there ≡ false → there ≡ None
not_there None is = refl
not_there (Some x) is = absurd (let z : true ≡ false = is in cc)

module _ (whole : Whole) (virt name : List ℕ) (sound : IsSound whole) where
  abbrev core : Core
  core = whole.cluster.core

  abbrev new : Whole
  new = record whole { cluster = record whole.cluster { core = admitted virt name core } }

  -- the number of the storage
  abbrev storage : ℕ
  storage = length core.storages

  dense : (repo : ℕ) (book : Repository) → repository core repo ≡ Some book
      → IsDense core.storages book
  dense repo book known =
      all_got (IsDense core.storages) core.repositories repo book sound.form.core.books.dense known

  -- nobody had a replica there
  nobodys : (path : List ℕ) → IsNobodys core storage path
  nobodys path repo book known has same =
      let within = replica_below core.storages book (dense repo book known) storage has in
      omega (arith, within)

  module _ (repo : ℕ) (book : Repository) (known : repository core repo ≡ Some book) where
    abbrev st : State
    st = state_of whole repo book

    -- the book, by whether it is of that virtual storage
    abbrev grown : Bool → Repository
    grown of_virt = if of_virt
        then record book { replicas = book.replicas ++ unrecorded storage ∷ [] } else book

    abbrev node : Bool → AtNode
    node of_virt = node_if of_virt (whole.cluster.node storage book.path)

    none_on : replica_on book storage ≡ None
    none_on = elim (bool (has_replica_on book storage)) [
      | inl has ↦ absurd (nobodys book.path repo book known has refl)
      | inr fails ↦ not_there (replica_on book storage) fails
    ]

    on_other : (of_virt : Bool) (other : ℕ) → (other ≡ storage → ⊥)
        → replica_on (grown of_virt) other ≡ replica_on book other
    on_other false other differs = refl
    on_other true other differs = found_before book.replicas (unrecorded storage) other
        (elim (bool (storage == other)) [
          | inl holds ↦ absurd (differs (sym (same_number storage other holds)))
          | inr fails ↦ fails
        ])

    -- nothing is recorded there
    on_here : {A : Type 0} (read : Option Replica → A)
        → read (Some (unrecorded storage)) ≡ read None → (of_virt : Bool)
        → read (replica_on (grown of_virt) storage) ≡ read (replica_on book storage)
    on_here read same false = refl
    on_here read same true = ap read (found_last book.replicas (unrecorded storage) none_on)
        ∙ same ∙ sym (ap read none_on)

    has_here : (of_virt : Bool) → has_replica_on (grown of_virt) storage ≡ of_virt
    has_here false = ap (λ x. is_some x) none_on
    has_here true = ap (λ x. is_some x) (found_last book.replicas (unrecorded storage) none_on)

    left : {A : Type 0} (read : Option Replica → A) → read (Some (unrecorded storage)) ≡ read None
        → (of_virt : Bool) (other : ℕ)
        → read (replica_on (grown of_virt) other) ≡ read (replica_on book other)
    left read same of_virt other = elim (bool (other == storage)) [
      | inl holds ↦ subst (λ x. read (replica_on (grown of_virt) x) ≡ read (replica_on book x))
          (sym (same_number other storage holds)) (on_here read same of_virt)
      | inr fails ↦ ap read (on_other of_virt other (other_number other storage fails))
    ]

    path : (of_virt : Bool) → (grown of_virt).path ≡ book.path
    path of_virt = if_kept (λ (x : Repository). x.path) of_virt _ book refl

    -- ---- what its node has appears

    as_seen : (of_virt : Bool) (other : ℕ) (at_node : AtNode)
        → node_if (has_replica_on (grown of_virt) other) (whole.cluster.node other book.path)
        ≡ at_node → replica_of new repo (grown of_virt) other ≡ with_node (st.replica other) at_node
    as_seen of_virt other at_node is = same_replica (replica_of new repo (grown of_virt) other)
        (with_node (st.replica other) at_node) (left kept_in refl of_virt other)
        (left (λ x. seen_booking (booking_in x)) refl of_virt other) refl
        (ap (λ p. node_if (has_replica_on (grown of_virt) other) (whole.cluster.node other p))
        (path of_virt) ∙ is) refl refl refl refl

    abbrev appeared : Bool → State
    appeared of_virt = with_replica st storage (with_node (st.replica storage) (node of_virt))

    replica : (of_virt : Bool) (other : ℕ)
        → replica_of new repo (grown of_virt) other ≡ (appeared of_virt).replica other
    replica of_virt other = choose (λ x. replica_of new repo (grown of_virt) other ≡ x)
        (other == storage) (with_node (st.replica storage) (node of_virt)) (st.replica other)
        (λ holds. subst (λ x. replica_of new repo (grown of_virt) x
        ≡ with_node (st.replica storage) (node of_virt)) (sym (same_number other storage holds))
        (as_seen of_virt storage (node of_virt)
        (ap (λ has. node_if has (whole.cluster.node storage book.path)) (has_here of_virt))))
        (λ fails. as_seen of_virt other (st.replica other).node
        (ap (λ x. node_if (is_some x) (whole.cluster.node other book.path))
        (on_other of_virt other (other_number other storage fails))))

    abbrev then_ : Bool → State
    then_ of_virt = record (appeared of_virt) { admitted = st.admitted + 1 }

    here : (of_virt : Bool) → state_of new repo (grown of_virt) ≡ then_ of_virt
    here of_virt = same_state (state_of new repo (grown of_virt)) (then_ of_virt)
        (same_shared (state_of new repo (grown of_virt)).shared st.shared
        (if_kept (λ (x : Repository). x.newest) of_virt _ book refl)
        (if_kept (λ (x : Repository). x.last) of_virt _ book refl)
        (if_kept (λ (x : Repository). x.creation) of_virt _ book refl) refl refl)
        (length-append core.storages _)
        (same_functions _ _ (left is_assigned_in refl of_virt))
        (same_functions _ _ (replica of_virt)) refl

    leads : (of_virt : Bool) → LeadsTo st (state_of new repo (grown of_virt))
    leads of_virt = let always = has_invariant whole sound repo book known in
        subst (LeadsTo st) (sym (here of_virt)) (Then st (appeared of_virt) (then_ of_virt)
        (once st (appeared of_virt) (Appears st storage (node of_virt)
        (always.shape.fresh storage (omega arith))
        (from_before of_virt (whole.cluster.node storage book.path) st.shared.text
        (λ is. sound.quiet storage book.path (nobodys book.path)))))
        (Admits (appeared of_virt)))

    abbrev now : Repository
    now = with_storage virt storage book

    goes : Goes whole new repo book
    goes = record {
      now = now;
      there = slice_get-map (with_storage virt storage) core.repositories repo
          ∙ ap (option_map (with_storage virt storage)) known;
      leads = leads (bytes_eq book.virt virt);
    }

  none_comes : (repo : ℕ) (book : Repository) → repository core repo ≡ None
      → repository new.cluster.core repo ≡ Some book → ⊥
  none_comes repo book none is = let z : None ≡ Some book =
      sym (slice_get-map (with_storage virt storage) core.repositories repo
      ∙ ap (option_map (with_storage virt storage)) none) ∙ is in cc

  -- each repository goes on, and none comes
  pub admission_goes : GoesOn whole new
  admission_goes = record {
    each = goes;
    comes = λ repo book none is. absurd (none_comes repo book none is);
  }

pub an_admission_goes_on : AdmitGoesOn
an_admission_goes_on virt name whole sound accepted = admission_goes whole virt name sound
