-- A storage that is admitted, and the replicas that repositories have then.
use Rattle.std.proofs.Common.{◌≡◌, ◌<◌, ◌+◌, ◌++◌, ◌∷◌, [], ℕ, List, length, drop, get_or, map, slice_get, Option, None, Some, refl, ap, sym, ◌∙◌, subst, ⊎_elim, inl, inr}
use Rattle.std.specs.Option.{option_map}
use Rattle.std.specs.Str.{bytes_eq}
use Rattle.std.proofs.lemmas.Bool.{cases_Bool, cond-false, cond-true}
use Rattle.std.proofs.lemmas.List.{drop_more}
use Rattle.std.proofs.lemmas.Option.{slice_get-map}
use Rattle.px_base.specs.RefList.{is_name}
use Rattle.refstore.proofs.Names.{names_laws, one_name}
use Rattle.px_cluster.specs.Book.{Replica, Repository, Storage}
use Rattle.px_cluster.specs.Creating.{has_name, with_storage}
use Rattle.px_cluster.specs.Numbers.{first_of, places_of}
use Rattle.genbook.specs.Index.{AreFound, AreNamed, IsNext, Names, Paths, Puts, number_at, number_of}
use Rattle.genbook.specs.Longer.{longer_for, with_longer, with_next}
use Rattle.genbook.specs.declared.ready.Ready.{Ready}
use Rattle.genbook.specs.declared.ready.Ready.TheVariants as ready
use Rattle.genbook.proofs.IndexLemmas.{in_longer}
use Rattle.genbook.proofs.Found.{none_named}

-- ---- replicas

-- the repository gets what was worked out for it
with_longer_for : (virt : List ℕ) (storage : ℕ) (repo : Repository)
    → with_longer (longer_for virt storage repo) repo ≡ with_storage virt storage repo
with_longer_for virt storage repo = elim (cases_Bool (bytes_eq repo.virt virt)) [
  | inl of_it ↦ rw of_it refl
  | inr other ↦ rw other refl
]

module _ (virt : List ℕ) (storage i : ℕ) (repositories : List Repository) (repo : Repository)
    (within : i < length repositories) (is : repo ≡ get_or repositories i repo)
    (next : List (Option (List Replica)))
    (are : next ≡ map (longer_for virt storage) (drop i repositories)) where
  next_is : next ≡ longer_for virt storage repo ∷ map (longer_for virt storage) (drop (i + 1) repositories)
  next_is = are ∙ ap (map (longer_for virt storage)) (drop_more repositories i repo within
      ∙ ap (λ (r : Repository). r ∷ drop (i + 1) repositories) (sym is))

  pub one_longer : with_next next repo ≡ with_storage virt storage repo
  one_longer = ap (λ (ls : List (Option (List Replica))). with_next ls repo) next_is
      ∙ with_longer_for virt storage repo

  pub rest_longer : drop 1 next ≡ map (longer_for virt storage) (drop (i + 1) repositories)
  rest_longer = ap (λ (ls : List (Option (List Replica))). drop 1 ls) next_is

-- a repository with one replica more is found where it was
named_same : (virt : List ℕ) (storage : ℕ) (repo : Repository)
    → ((with_storage virt storage repo).virt ≡ repo.virt)
    × ((with_storage virt storage repo).path ≡ repo.path)
named_same virt storage repo = elim (cases_Bool (bytes_eq repo.virt virt)) [
  | inl of_it ↦ rw of_it (refl, refl)
  | inr other ↦ rw other (refl, refl)
]

pub found_lengthened : (paths : Paths) (repositories : List Repository) (virt : List ℕ) (storage : ℕ)
    → AreFound paths repositories → AreFound paths (map (with_storage virt storage) repositories)
found_lengthened paths repositories virt storage found i repo there =
    by (slice_get repositories i) refl
  where
    by : (o : Option Repository) → slice_get repositories i ≡ o
        → number_at paths repo.virt repo.path ≡ Some i
    by None none =
        let z : None ≡ Some repo =
        sym (slice_get-map (with_storage virt storage) repositories i
        ∙ ap (option_map (with_storage virt storage)) none) ∙ there in
        absurd (cc)
    by (Some old) is =
        let same : Some (with_storage virt storage old) ≡ Some repo =
        sym (slice_get-map (with_storage virt storage) repositories i
        ∙ ap (option_map (with_storage virt storage)) is) ∙ there in
        let new : with_storage virt storage old ≡ repo = cc in
        let named = named_same virt storage old in
        subst (λ (r : Repository). number_at paths r.virt r.path ≡ Some i) new
        (subst (λ (v : List ℕ). number_at paths v (with_storage virt storage old).path ≡ Some i) (sym named.0)
        (subst (λ (p : List ℕ). number_at paths old.virt p ≡ Some i) (sym named.1) (found i old is)))

-- ---- storages by their names

-- a storage comes whose number is there
pub named_longer : (names : Names) (storages : List Storage) (new : Storage)
    → AreNamed names storages → number_of names new.name ≡ Some (length storages)
    → AreNamed names (storages ++ new ∷ [])
named_longer names storages new named next i storage there =
    ⊎_elim (λ stood. named i storage stood)
    (λ more. subst (λ (s : Storage). number_of names s.name ≡ Some i) more.1
    (next ∙ ap (λ (n : ℕ). Some n) (sym more.0)))
    (in_longer storages new storage i there)

-- what is made ready
pub made_next : (old new : Names) (before now : List Storage) (name : List ℕ) (number room : ℕ)
    → AreNamed old before → now ≡ before → first_of (places_of (has_name name) before) ≡ None
    → Puts old new name number → number ≡ length now → length now < room
    → AreNamed new now × IsNext (ready.Storage name) new now room
made_next old new before now name number room are same none puts is fits = (
  subst (AreNamed new) (sym same) (λ i storage there.
      ⊎_elim
      (λ t. absurd (none_named before name none i storage there (one_name name storage.name t)))
      (λ f. puts storage.name
      ∙ cond-false (is_name name storage.name) (Some number) (number_of old storage.name) f
      ∙ are i storage there)
      (cases_Bool (is_name name storage.name))),
  (
    fits,
    puts name
        ∙ cond-true (is_name name name) (Some number) (number_of old name) (names_laws.refl name)
        ∙ ap (λ (n : ℕ). Some n) is,
  ),
)

-- and comes
pub next_is_there : (next : Ready) (names : Names) (storages : List Storage) (room : ℕ) (name : List ℕ)
    → IsNext next names storages room → next ≡ ready.Storage name
    → (length storages < room) × (number_of names name ≡ Some (length storages))
next_is_there next names storages room name is same =
    let both = subst (λ (r : Ready). IsNext r names storages room) same is in (both.0, both.1)
