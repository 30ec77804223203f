-- The ledger names only leases that were drawn, where leases are given a purpose.
use Rattle.std.proofs.Common.{◌≡◌, ◌+◌, ◌==◌, ◌&&◌, ◌||◌, ◌⊎◌, ℕ, zero, suc, List, [], ◌∷◌, Bool, true, false, Option, None, Some, refl, sym, ◌∙◌, ap, subst, inl, inr, length, slice_get, take, unwrap_or, arith}
use Rattle.std.specs.Str.{bytes_eq}
use Rattle.px_ops.specs.declared.op.Op.{Op}
use Rattle.px_ops.specs.declared.op.Op.TheVariants as op
use Rattle.px_cluster.proofs.Growing.{left}
use Rattle.px_cluster.specs.Book.{Repository, storages_of}
use Rattle.px_cluster.specs.Core.{Core, repository}
use Rattle.px_cluster.specs.Creating.{assigned_for, before_create, created_on, factor_for, found, is_at_path, number_for, unmade, with_created}
use Rattle.px_cluster.specs.Ledger.{Ledger, Purpose, with_purposes}
use Rattle.px_cluster.specs.Numbers.{is_one_of}
use Rattle.px_cluster.specs.Ops.{left_by}
use Rattle.cluster_form.specs.Drawn.{AreUsesDrawn, IsDrawn, is_used}
use Rattle.cluster_form.proofs.Homes.{still_left}
use Rattle.cluster_form.proofs.Lists.{bool, both_left, both_right, bytes_same, same_number}
use Rattle.cluster_form.proofs.Places.{got_beyond, got_last, place_found}
use Rattle.cluster_form.proofs.Uses.{SameUses}
use Rattle.cluster_form.proofs.WithinLists.{got_set, later_there}

-- ---- what was drawn was drawn after each operation

drawn_left : (core : Core) (asked : Op) (repo storage lease : ℕ) → IsDrawn core repo storage lease
    → IsDrawn (left_by core asked) repo storage lease
drawn_left core asked repo storage lease is =
    let later = later_there core.repositories (left_by core asked).repositories
    (left core asked).0 repo is.home.book is.home.there in
    record {
      home = record {
        book = later.0;
        there = later.1;
        home = ap (λ virt. is_one_of storage (storages_of (left_by core asked).storages virt))
            later.2.virt ∙ still_left core asked is.home.book.virt storage is.home.home;
      };
      drawn = (let drawn = is.drawn in let last = later.2.last in omega (arith, drawn, last));
    }

pub all_left : (core : Core) (asked : Op) (ledger : Ledger) → AreUsesDrawn core ledger
    → AreUsesDrawn (left_by core asked) ledger
all_left core asked ledger are repo storage lease used =
    drawn_left core asked repo storage lease (are repo storage lease used)

-- ---- leases with another purpose

-- a lease that is used now was used before, or it is one of those that were given a purpose
pub used_before : (ledger : Ledger) (repo : ℕ) (test : ℕ → Bool) (lease : ℕ)
    (change : ℕ → Purpose → Purpose) (r s l : ℕ)
    → is_used (with_purposes ledger repo test lease change r s l) ≡ true
    → (is_used (ledger r s l) ≡ true) ⊎ ((r ≡ repo) × (test s ≡ true) × (l ≡ lease))
used_before ledger repo test lease change r s l used =
    elim (bool ((r == repo) && test s && (l == lease))) [
      | inl holds ↦ (let first = both_left ((r == repo) && test s) (l == lease) holds in inr (
        same_number r repo (both_left (r == repo) (test s) first),
        both_right (r == repo) (test s) first,
        same_number l lease (both_right ((r == repo) && test s) (l == lease) holds),
      ))
      | inr fails ↦ inl (rw fails at used)
    ]

pub new_drawn : (core : Core) (ledger : Ledger) (repo : ℕ) (test : ℕ → Bool) (lease : ℕ)
    (change : ℕ → Purpose → Purpose) → AreUsesDrawn core ledger
    → ((storage : ℕ) → test storage ≡ true → IsDrawn core repo storage lease)
    → AreUsesDrawn core (with_purposes ledger repo test lease change)
new_drawn core ledger repo test lease change are drawn r s l used =
    by (used_before ledger repo test lease change r s l used)
  where
    by : (is_used (ledger r s l) ≡ true) ⊎ ((r ≡ repo) × (test s ≡ true) × (l ≡ lease))
        → IsDrawn core r s l
    by (inl before) = are r s l before
    by (inr new) = subst (λ x. IsDrawn core x s l) (sym new.0)
        (subst (λ x. IsDrawn core repo s x) (sym new.2) (drawn s new.1))

pub same_uses : (core : Core) (old new : Ledger) → SameUses old new → AreUsesDrawn core old
    → AreUsesDrawn core new
same_uses core old new same are repo storage lease used =
    are repo storage lease (sym (same repo storage lease) ∙ used)

-- ---- Create

taken_of : (n : ℕ) (ns : List ℕ) (x : ℕ) → is_one_of x (take n ns) ≡ true → is_one_of x ns ≡ true
taken_of zero ns x is = absurd (let z : false ≡ true = is in cc)
taken_of (suc n) [] x is = is
taken_of (suc n) (m ∷ ns) x is = by (m == x) is (taken_of n ns x)
  where
    by : (b : Bool) → (b || is_one_of x (take n ns)) ≡ true
        → (is_one_of x (take n ns) ≡ true → is_one_of x ns ≡ true) → (b || is_one_of x ns) ≡ true
    by true is rest = refl
    by false is rest = rest is

assigned_home : (core : Core) (virt : List ℕ) (factor storage : ℕ)
    → is_one_of storage (assigned_for core virt factor) ≡ true
    → is_one_of storage (storages_of core.storages virt) ≡ true
assigned_home core virt factor storage is = elim (bool (factor_for core virt factor == 0)) [
  | inl holds ↦ (rw holds at is)
  | inr fails ↦ taken_of (factor_for core virt factor) (storages_of core.storages virt) storage
      (rw fails at is)
]

-- the repository as it was before, by the place where it was found
abbrev before : Core → List ℕ → List ℕ → Option ℕ → Repository
before core virt path there = unwrap_or
    (repository core (unwrap_or there (length core.repositories))) (unmade core virt path)

-- it stands at its number, and is of that virtual storage
record IsCreated (core : Core) (virt path chosen : List ℕ) (there : Option ℕ) : Type 0 where
  place : repository (with_created there (created_on chosen (before core virt path there)) core)
      (unwrap_or there (length core.repositories))
      ≡ Some (created_on chosen (before core virt path there))
  virt_ : (before core virt path there).virt ≡ virt
  storages : (with_created there (created_on chosen (before core virt path there)) core).storages
      ≡ core.storages

is_created : (core : Core) (virt path chosen : List ℕ) (there : Option ℕ)
    → found core virt path ≡ there → IsCreated core virt path chosen there
is_created core virt path chosen None is = record {
  place = got_last core.repositories _;
  virt_ = ap (λ (o : Option Repository). (unwrap_or o (unmade core virt path)).virt)
      (let beyond : repository core (length core.repositories) ≡ None =
      got_beyond core.repositories in beyond);
  storages = refl;
}
is_created core virt path chosen (Some repo) is =
    let place = place_found (is_at_path virt path) 0 core.repositories repo is in
    let same : place.offset ≡ repo = omega (arith, place.is) in
    let there : repository core repo ≡ Some place.element =
    subst (λ n. slice_get core.repositories n ≡ Some place.element) same place.there in
    record {
      place = got_set core.repositories repo place.element _ there;
      virt_ = ap (λ (o : Option Repository). (unwrap_or o (unmade core virt path)).virt) there
          ∙ bytes_same place.element.virt virt
          (both_left (bytes_eq place.element.virt virt) (bytes_eq place.element.path path)
          place.passes);
      storages = refl;
    }

pub created_drawn : (core : Core) (virt path : List ℕ) (factor : ℕ) (storage : ℕ)
    → is_one_of storage (assigned_for core virt factor) ≡ true
    → IsDrawn (left_by core (op.Create virt path factor)) (number_for core virt path) storage
    ((before_create core virt path).last + 1)
created_drawn core virt path factor storage is =
    let created = is_created core virt path (assigned_for core virt factor)
    (found core virt path) refl in
    record {
      home = record {
        book = created_on (assigned_for core virt factor) (before_create core virt path);
        there = created.place;
        home = (λ i. is_one_of storage (storages_of (created.storages i) (created.virt_ i)))
            ∙ assigned_home core virt factor storage is;
      };
      drawn = omega arith;
    }
