-- Storages and repositories are where the indexes of the book have them.
use Rattle.std.proofs.Common.{◌≡◌, ◌⊎◌, ◌<◌, length, ℕ, zero, suc, List, [], ◌∷◌, true, Option, None, Some, IfSome, refl, sym, ◌∙◌, ap, subst, inl, inr, ⊎_elim, slice_get, set}
use Rattle.std.specs.Str.{bytes_eq}
use Rattle.std.proofs.lemmas.Bool.{and_from, and_parts}
use Rattle.std.proofs.lemmas.Slice.Eq.{bytes_eq-Decides}
use Rattle.px_cluster.specs.Book.{Repository, Storage}
use Rattle.px_cluster.specs.Creating.{has_name, is_at_path}
use Rattle.px_cluster.specs.Numbers.{first_of, places_of}
use Rattle.std.proofs.lemmas.List.{length-set}
use Rattle.genbook.specs.Books.{IsNamedAs}
use Rattle.genbook.specs.declared.ready.Ready.{Ready}
use Rattle.genbook.specs.declared.ready.Ready.TheVariants as ready
use Rattle.genbook.specs.Index.{AreFound, AreNamed, IsReady, Names, Paths, number_at, number_of}
use Rattle.genbook.specs.Places.{checked}
use Rattle.genbook.proofs.Places.{first_checked, place_none, some_is}

pub same_text : (one other : List ℕ) → bytes_eq one other ≡ true → one ≡ other
same_text one other is = (bytes_eq-Decides one other).0 is

-- the storage of a name
pub storage_checked : (names : Names) (storages : List Storage) (name : List ℕ)
    → AreNamed names storages
    → checked (has_name name) storages (number_of names name)
    ≡ first_of (places_of (has_name name) storages)
storage_checked names storages name named =
    first_checked (has_name name) storages (number_of names name) (λ i storage there passes.
    subst (λ (n : List ℕ). number_of names n ≡ Some i)
    (same_text storage.name name passes) (named i storage there))

-- the repository of a virtual storage and a path
pub repository_checked : (paths : Paths) (repositories : List Repository) (virt path : List ℕ)
    → AreFound paths repositories
    → checked (is_at_path virt path) repositories (number_at paths virt path)
    ≡ first_of (places_of (is_at_path virt path) repositories)
repository_checked paths repositories virt path found =
    first_checked (is_at_path virt path) repositories (number_at paths virt path)
    (λ i repo there passes.
    let both = and_parts (bytes_eq repo.virt virt) (bytes_eq repo.path path) passes in
    subst (λ (v : List ℕ). number_at paths v path ≡ Some i) (same_text repo.virt virt both.0)
    (subst (λ (p : List ℕ). number_at paths repo.virt p ≡ Some i)
    (same_text repo.path path both.1) (found i repo there)))

-- what stands in a list in which one was put stood there, or is that one, in place of another
in_set : {A : Type 0} (xs : List A) (i j : ℕ) (new x : A) → slice_get (set xs i new) j ≡ Some x
    → (slice_get xs j ≡ Some x) ⊎ ((j ≡ i) × (new ≡ x) × (old : A) × (slice_get xs i ≡ Some old))
in_set [] i j new x there = inl there
in_set (y ∷ ys) zero zero new x there = inr (refl, some_is new x there, y, refl)
in_set (y ∷ ys) zero (suc j) new x there = inl there
in_set (y ∷ ys) (suc i) zero new x there = inl there
in_set (y ∷ ys) (suc i) (suc j) new x there =
    ⊎_elim (λ stood. inl stood) (λ put. inr (ap suc put.0, put.1, put.2, put.3)) (in_set ys i j new x there)

-- what is recorded of a repository changed, and not its virtual storage nor its path
pub found_after : (paths : Paths) (repositories : List Repository) (i : ℕ) (new : Repository)
    → AreFound paths repositories
    → IfSome (slice_get repositories i) (λ (before : Repository). IsNamedAs before new)
    → AreFound paths (set repositories i new)
found_after paths repositories i new found named j repo here =
    ⊎_elim (λ stood. found j repo stood)
    (λ put. let is = subst (λ (o : Option Repository). IfSome o (λ (before : Repository). IsNamedAs before new)) put.3 named in
    subst (λ (r : Repository). number_at paths r.virt r.path ≡ Some j) put.1
    (subst (λ (n : ℕ). number_at paths new.virt new.path ≡ Some n) (sym put.0)
    (subst (λ (v : List ℕ). number_at paths v new.path ≡ Some i) (sym is.0)
    (subst (λ (p : List ℕ). number_at paths put.2.virt p ≡ Some i) (sym is.1)
    (found i put.2 put.3)))))
    (in_set repositories i j new repo here)

-- no repository has the virtual storage and path
pub none_there : (repositories : List Repository) (virt path : List ℕ)
    → first_of (places_of (is_at_path virt path) repositories) ≡ None
    → (i : ℕ) (repo : Repository) → slice_get repositories i ≡ Some repo → virt ≡ repo.virt
    → path ≡ repo.path → ⊥
none_there repositories virt path none i repo there same also =
    place_none (is_at_path virt path) 0 repositories none i repo there
    (and_from (bytes_eq repo.virt virt) (bytes_eq repo.path path)
    ((bytes_eq-Decides repo.virt virt).1 (sym same)) ((bytes_eq-Decides repo.path path).1 (sym also)))

-- what is ready stays so
pub ready_after : (next : Ready) (paths : Paths) (repositories : List Repository) (i : ℕ) (new : Repository)
    (room : ℕ) → IsReady next paths repositories room
    → IsReady next paths (set repositories i new) room
ready_after next paths repositories i new room is =
    by next is
  where
    stays : length (set repositories i new) ≡ length repositories
    stays = length-set repositories i new

    by : (it : Ready) → IsReady it paths repositories room → IsReady it paths (set repositories i new) room
    by ready.Nothing is = tt
    by (ready.Storage name) is = tt
    by (ready.Repository virt path) is = (
      subst (λ (n : ℕ). n < room) (sym stays) is.0,
      is.1 ∙ ap (λ (n : ℕ). Some n) (sym stays),
      subst (λ (n : ℕ). n < 100000) (sym stays) is.2,
    )

-- no storage has the name
pub none_named : (storages : List Storage) (name : List ℕ)
    → first_of (places_of (has_name name) storages) ≡ None
    → (i : ℕ) (storage : Storage) → slice_get storages i ≡ Some storage → name ≡ storage.name → ⊥
none_named storages name none i storage there same =
    place_none (has_name name) 0 storages none i storage there
    ((bytes_eq-Decides storage.name name).1 (sym same))
