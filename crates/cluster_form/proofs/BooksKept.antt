-- The book keeps its form at each operation, and at a restart.
use Rattle.std.proofs.Common.{◌≡◌, ℕ, ◌==◌, List, [], ◌∷◌, ◌++◌, Bool, true, false, Option, None, Some, refl, sym, ◌∙◌, ap, subst, slice_get, set, map, unwrap_or, length, arith}
use Rattle.std.specs.List.{AllByRecursion}
use Rattle.std.specs.Str.{bytes_eq}
use Rattle.px_ops.specs.declared.op.Op.{Op}
use Rattle.px_ops.specs.declared.op.Op.TheVariants as op
use Rattle.px_ops.specs.declared.refusal.Refusal.{Refusal}
use Rattle.px_cluster.specs.Book.{Repository, Storage, storages_of}
use Rattle.px_cluster.specs.Core.{Core, empty, repository, restarted, with_repository_by}
use Rattle.px_cluster.specs.Creating.{admitted, assigned_for, create_refusal, created_on, found, is_at_path, unmade, with_created, with_storage}
use Rattle.px_cluster.specs.Factor.{reassigned}
use Rattle.px_cluster.specs.Ops.{left_by, refusal_of}
use Rattle.px_cluster.specs.Refusals.{cause, first_cause}
use Rattle.cluster_form.specs.Books.{AreBooks, HasAssigned, IsDense}
use Rattle.cluster_form.proofs.AlikeBooks.{AreAlike, IsPlain, left_alike}
use Rattle.cluster_form.proofs.ApartPaths.{AreApart, apart_with, still_apart, were_alike, were_mapped, were_set}
use Rattle.cluster_form.proofs.AssignedBooks.{assigned_admitted, assigned_alike, assigned_created, assigned_reassigned}
use Rattle.cluster_form.proofs.DenseBooks.{all_alike_too, dense_admitted, dense_alike, dense_created, dense_reassigned, dense_unmade}
use Rattle.cluster_form.proofs.Lists.{all_both, all_got, all_map, all_set, both_left, bytes_same, if_kept, same_bytes}
use Rattle.cluster_form.proofs.Places.{got_beyond, place_found, place_none}

-- the three parts, over the lists
pub record AreFormed (storages : List Storage) (books : List Repository) : Type 0 where
  pub dense : AllByRecursion (IsDense storages) books
  pub assigned : AllByRecursion HasAssigned books
  pub apart : AreApart books

formed : (core : Core) → AreBooks core → AreFormed core.storages core.repositories
formed core are = record { dense = are.dense; assigned = are.assigned; apart = are.apart }

books : (core : Core) → AreFormed core.storages core.repositories → AreBooks core
books core are = record { dense = are.dense; assigned = are.assigned; apart = are.apart }

-- ---- alike

alike : (storages : List Storage) (old new : List Repository) → AreAlike old new
    → AreFormed storages old → AreFormed storages new
alike storages old new are form = record {
  dense = all_alike_too (IsDense storages) (dense_alike storages) old new are form.dense;
  assigned = all_alike_too HasAssigned assigned_alike old new are form.assigned;
  apart = still_apart old new (were_alike old new are) form.apart;
}

-- ---- Admit

admitted_books : (core : Core) (virt name : List ℕ) → AreFormed core.storages core.repositories
    → AreFormed (core.storages ++ record { virt = virt; name = name } ∷ [])
    (map (with_storage virt (length core.storages)) core.repositories)
admitted_books core virt name form = record {
  dense = all_map (IsDense core.storages) (IsDense _) (with_storage virt (length core.storages))
      core.repositories (dense_admitted core.storages virt name) form.dense;
  assigned = all_map HasAssigned HasAssigned (with_storage virt (length core.storages))
      core.repositories (assigned_admitted virt (length core.storages)) form.assigned;
  apart = still_apart core.repositories _ (were_mapped _
      (λ book. if_kept (λ (b : Repository). b.virt) (bytes_eq book.virt virt) _ book refl)
      (λ book. if_kept (λ (b : Repository). b.path) (bytes_eq book.virt virt) _ book refl)
      core.repositories) form.apart;
}

-- ---- one repository is another

one_set : (storages : List Storage) (books : List Repository) (repo : ℕ) (was new : Repository)
    → slice_get books repo ≡ Some was → new.virt ≡ was.virt → new.path ≡ was.path
    → IsDense storages new → HasAssigned new → AreFormed storages books
    → AreFormed storages (set books repo new)
one_set storages books repo was new is virt path dense assigned form = record {
  dense = all_set (IsDense storages) books repo new form.dense dense;
  assigned = all_set HasAssigned books repo new form.assigned assigned;
  apart = still_apart books (set books repo new) (were_set books repo was new is virt path)
      form.apart;
}

reassigned_books : (core : Core) (repo factor : ℕ) (there : Option Repository)
    → repository core repo ≡ there → AreFormed core.storages core.repositories
    → AreFormed core.storages
    (with_repository_by there repo (reassigned core factor) core).repositories
reassigned_books core repo factor None is form = form
reassigned_books core repo factor (Some was) is form =
    one_set core.storages core.repositories repo was (reassigned core factor was) is refl refl
    (dense_reassigned core factor was
    (all_got (IsDense core.storages) core.repositories repo was form.dense is))
    (assigned_reassigned core was factor
    (all_got HasAssigned core.repositories repo was form.assigned is)) form

-- ---- Create

some_storage : (holds : Bool) (why : Refusal) (causes : List (Option Refusal))
    → first_cause (cause holds why ∷ causes) ≡ None → holds ≡ false
some_storage true why causes is = absurd (cc)
some_storage false why causes is = refl

module _ (core : Core) (virt path : List ℕ) (factor : ℕ)
    (some : (length (storages_of core.storages virt) == 0) ≡ false)
    (form : AreFormed core.storages core.repositories) where
  abbrev chosen : List ℕ
  chosen = assigned_for core virt factor

  abbrev first : Repository
  first = created_on chosen (unmade core virt path)

  none_there : found core virt path ≡ None → (repo : ℕ) (book : Repository)
      → slice_get core.repositories repo ≡ Some book → book.virt ≡ virt → book.path ≡ path → ⊥
  none_there none repo book there v p =
      place_none (is_at_path virt path) 0 core.repositories none repo book there
      (rw (same_bytes book.virt virt v) (same_bytes book.path path p))

  new_book : found core virt path ≡ None
      → AreFormed core.storages (core.repositories ++ first ∷ [])
  new_book none = record {
    dense = all_both (IsDense core.storages) core.repositories (first ∷ []) form.dense (
      dense_created core.storages chosen (unmade core virt path)
          (dense_unmade core virt path),
      tt,
    );
    assigned = all_both HasAssigned core.repositories (first ∷ []) form.assigned (
      assigned_created core virt factor (unmade core virt path) (dense_unmade core virt path)
          some,
      tt,
    );
    apart = apart_with core.repositories first (none_there none) form.apart;
  }

  again : (repo : ℕ) → found core virt path ≡ Some repo
      → AreFormed core.storages (set core.repositories repo (created_on chosen
      (unwrap_or (repository core repo) (unmade core virt path))))
  again repo is =
      let place = place_found (is_at_path virt path) 0 core.repositories repo is in
      let same : place.offset ≡ repo = omega (arith, place.is) in
      let there : repository core repo ≡ Some place.element =
      subst (λ n. slice_get core.repositories n ≡ Some place.element) same place.there in
      subst (λ (o : Option Repository). AreFormed core.storages (set core.repositories repo
      (created_on chosen (unwrap_or o (unmade core virt path))))) (sym there)
      (made_again place.element there (bytes_same place.element.virt virt
      (both_left (bytes_eq place.element.virt virt) (bytes_eq place.element.path path)
      place.passes)))
    where
      made_again : (was : Repository) → repository core repo ≡ Some was → was.virt ≡ virt
          → AreFormed core.storages (set core.repositories repo (created_on chosen was))
      made_again was there v =
          let dense = all_got (IsDense core.storages) core.repositories repo was form.dense there in
          one_set core.storages core.repositories repo was (created_on chosen was) there refl refl
          (dense_created core.storages chosen was dense)
          (assigned_created core virt factor was
          (dense ∙ ap (storages_of core.storages) v) some) form

  created_books : (there : Option ℕ) → found core virt path ≡ there
      → AreFormed core.storages (with_created there (created_on chosen (unwrap_or
      (repository core (unwrap_or there (length core.repositories))) (unmade core virt path)))
      core).repositories
  created_books None is =
      let beyond : repository core (length core.repositories) ≡ None = got_beyond core.repositories in
      subst (λ (o : Option Repository). AreFormed core.storages (core.repositories
      ++ created_on chosen (unwrap_or o (unmade core virt path)) ∷ [])) (sym beyond) (new_book is)
  created_books (Some repo) is = again repo is

-- ---- each operation

plain : (core : Core) (asked : Op) → IsPlain asked → AreBooks core
    → AreBooks (left_by core asked)
plain core asked is are =
    let left = left_alike core asked is in
    books (left_by core asked)
    (subst (λ storages. AreFormed storages (left_by core asked).repositories) (sym left.1)
    (alike core.storages core.repositories (left_by core asked).repositories left.0
    (formed core are)))

created_in : (core : Core) (virt path : List ℕ) (factor : ℕ)
    → create_refusal core virt path factor ≡ None → AreFormed core.storages core.repositories
    → AreBooks (left_by core (op.Create virt path factor))
created_in core virt path factor none form = by (found core virt path) refl
  where
    some : (length (storages_of core.storages virt) == 0) ≡ false
    some = some_storage (length (storages_of core.storages virt) == 0) _ _ none

    by : (there : Option ℕ) → found core virt path ≡ there → AreBooks (with_created there
        (created_on (assigned_for core virt factor) (unwrap_or
        (repository core (unwrap_or there (length core.repositories))) (unmade core virt path)))
        core)
    by None is = books (record core { repositories = _; reads = _ })
        (created_books core virt path factor some form None is)
    by (Some repo) is = books (record core { repositories = _ })
        (created_books core virt path factor some form (Some repo) is)

reassigned_in : (core : Core) (repo factor : ℕ) (there : Option Repository)
    → repository core repo ≡ there → AreFormed core.storages core.repositories
    → AreBooks (with_repository_by there repo (reassigned core factor) core)
reassigned_in core repo factor None is form = books core form
reassigned_in core repo factor (Some was) is form =
    books (record core { repositories = _ })
    (reassigned_books core repo factor (Some was) is form)

pub books_left : (core : Core) (asked : Op) → refusal_of core asked ≡ None → AreBooks core
    → AreBooks (left_by core asked)
books_left core (op.Admit virt name) none are =
    books (admitted virt name core) (admitted_books core virt name (formed core are))
books_left core (op.Health storage up) none are = plain core (op.Health storage up) tt are
books_left core (op.Open threshold rounds voters) none are =
    plain core (op.Open threshold rounds voters) tt are
books_left core (op.Cast tx voter phase hash) none are =
    plain core (op.Cast tx voter phase hash) tt are
books_left core (op.Withdraw tx voter) none are = plain core (op.Withdraw tx voter) tt are
books_left core (op.Cancel tx) none are = plain core (op.Cancel tx) tt are
books_left core (op.Stop tx) none are = plain core (op.Stop tx) tt are
books_left core (op.Collect tx voter sub) none are = are
books_left core (op.Outcome tx sub) none are = are
books_left core (op.Close tx) none are = plain core (op.Close tx) tt are
books_left core (op.Create virt path factor) none are =
    created_in core virt path factor none (formed core are)
books_left core (op.Enrol repo storage lease) none are =
    plain core (op.Enrol repo storage lease) tt are
books_left core (op.Begin repo) none are = plain core (op.Begin repo) tt are
books_left core (op.Finish tx) none are = plain core (op.Finish tx) tt are
books_left core (op.Dequeue target now) none are = plain core (op.Dequeue target now) tt are
books_left core (op.Beat job lease now) none are = plain core (op.Beat job lease now) tt are
books_left core (op.Ack job lease good) none are = plain core (op.Ack job lease good) tt are
books_left core (op.Stale now span) none are = plain core (op.Stale now span) tt are
books_left core (op.Reconcile only) none are = plain core (op.Reconcile only) tt are
books_left core (op.RouteRead repo) none are = plain core (op.RouteRead repo) tt are
books_left core (op.SetFactor repo factor) none are =
    reassigned_in core repo.0 factor (repository core repo.0) refl (formed core are)
books_left core (op.AcceptBegin repo storage) none are =
    plain core (op.AcceptBegin repo storage) tt are
books_left core (op.Accept repo storage lease) none are =
    plain core (op.Accept repo storage lease) tt are
books_left core (op.SettleBegin repo storage) none are =
    plain core (op.SettleBegin repo storage) tt are
books_left core (op.Settle repo storage lease last) none are =
    plain core (op.Settle repo storage lease last) tt are
books_left core (op.Booked repo) none are = are
books_left core (op.Find virt path) none are = are
books_left core (op.Holder repo) none are = are

pub books_again : (core : Core) → AreBooks core → AreBooks (restarted core)
books_again core are = books (restarted core) (formed core are)

pub no_books : AreBooks empty
no_books = record {
  dense = tt;
  assigned = tt;
  apart = λ one other a b here there. absurd (let z : None ≡ Some a = here in cc);
}
