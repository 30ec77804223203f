-- A creation that was worked out for a book: its repository stands there, or comes at the end.
use Rattle.std.proofs.Common.{◌≡◌, ◌==◌, ◌⊎◌, ◌<◌, ◌≤◌, ◌++◌, ◌∷◌, [], ℕ, if◌then◌else◌, Bool, true, false, take, List, length, set, slice_get, unwrap_or, Option, None, Some, IfSome, refl, ap, sym, ◌∙◌, subst, ⊎_elim, inl, inr, arith}
use Rattle.std.specs.Str.{bytes_eq}
use Rattle.std.proofs.lemmas.Bool.{and_parts}
use Rattle.std.proofs.lemmas.List.{length-append, take-map}
use Rattle.std.proofs.lemmas.Option.{slice_get_past, slice_get_within}
use Rattle.px_base.specs.declared.ids.StorageId.{StorageId}
use Rattle.px_cluster.specs.Book.{Repository, storages_of}
use Rattle.px_cluster.specs.Core.{Core, repository}
use Rattle.px_cluster.specs.Creating.{assigned_for, before_create, created, found, is_at_path, number_for, unmade, with_created}
use Rattle.px_cluster.specs.Numbers.{first_of, places_of}
use Rattle.genbook.specs.Books.{Books, IsNamedAs, core_of}
use Rattle.genbook.specs.Changes.{numbers_of}
use Rattle.genbook.specs.Creations.{Fits, IsCreation, IsReadyFor}
use Rattle.genbook.specs.Index.{AreFound, IsReady, Paths, PutsAt, number_at}
use Rattle.genbook.specs.declared.creation.Creation.{Creation}
use Rattle.genbook.specs.declared.ready.Ready.{Ready}
use Rattle.genbook.specs.declared.ready.Ready.TheVariants as ready
use Rattle.genbook.proofs.Found.{found_after, none_there, same_text}
use Rattle.genbook.proofs.IndexLemmas.{found_longer, found_put, number_put}
use Rattle.genbook.proofs.Places.{first_there}

-- the repository that is found has the virtual storage and the path
pub record IsThere (repositories : List Repository) (virt path : List ℕ) (number : ℕ) : Type 0 where
  pub before : Repository
  pub there : slice_get repositories number ≡ Some before
  pub virt_is : before.virt ≡ virt
  pub path_is : before.path ≡ path
  pub within : number < length repositories

pub is_there : (core : Core) (virt path : List ℕ) (number : ℕ) → found core virt path ≡ Some number
    → IsThere core.repositories virt path number
is_there core virt path number is =
    let first = first_there (is_at_path virt path) core.repositories number is in
    let both = and_parts (bytes_eq first.element.virt virt) (bytes_eq first.element.path path) first.passes in
    record {
      before = first.element;
      there = first.there;
      virt_is = same_text first.element.virt virt both.0;
      path_is = same_text first.element.path path both.1;
      within = slice_get_within core.repositories number first.element first.there;
    }

-- ---- what is made

-- before a creation, too, a repository has its virtual storage and path
module _ (core : Core) (virt path : List ℕ) where
  abbrev before_of : Option ℕ → Repository
  before_of at = unwrap_or (repository core (unwrap_or at (length core.repositories))) (unmade core virt path)

  named_by : (at : Option ℕ) → found core virt path ≡ at
      → ((before_of at).virt ≡ virt) × ((before_of at).path ≡ path)
  named_by None is =
      let none = slice_get_past core.repositories (length core.repositories) (omega arith) in
      let b = ap (λ (o : Option Repository). unwrap_or o (unmade core virt path)) none in
      (ap (λ (r : Repository). r.virt) b, ap (λ (r : Repository). r.path) b)
  named_by (Some number) is =
      let old = is_there core virt path number is in
      let b = ap (λ (o : Option Repository). unwrap_or o (unmade core virt path)) old.there in
      (ap (λ (r : Repository). r.virt) b ∙ old.virt_is, ap (λ (r : Repository). r.path) b ∙ old.path_is)

  pub before_create-named : ((before_create core virt path).virt ≡ virt) × ((before_create core virt path).path ≡ path)
  before_create-named = named_by (found core virt path) refl

  module _ (factor : ℕ) (creation : Creation) (made : IsCreation core virt path factor creation) where
    pub creation-virt : creation.entry.virt ≡ virt
    creation-virt = ap (λ (r : Repository). r.virt) made.entry ∙ before_create-named.0

    pub creation-path : creation.entry.path ≡ path
    creation-path = ap (λ (r : Repository). r.path) made.entry ∙ before_create-named.1

    -- what a creation leaves is what the rules say
    pub with_created-is : (with_created (found core creation.entry.virt creation.entry.path) creation.entry core).repositories
        ≡ (created virt path factor core).repositories
    with_created-is =
        ap (λ (v : List ℕ). (with_created (found core v creation.entry.path) creation.entry core).repositories) creation-virt
        ∙ ap (λ (p : List ℕ). (with_created (found core virt p) creation.entry core).repositories) creation-path
        ∙ ap (λ (r : Repository). (with_created (found core virt path) r core).repositories) made.entry

    -- it fits a book that has the same, and made ready for it
    pub fits_made : (book : Books) → core_of book ≡ core → IsReadyFor (found core virt path) virt path book.ready
        → Fits book creation
    fits_made book same comes =
        let at = λ (k : Core) (v p : List ℕ). creation.repo.0 ≡ number_for k v p in
        let next = λ (k : Core) (v p : List ℕ). IsReadyFor (found k v p) v p book.ready in
        record {
          number = subst (λ (k : Core). at k creation.entry.virt creation.entry.path) (sym same)
              (subst (λ (v : List ℕ). at core v creation.entry.path) (sym creation-virt)
              (subst (λ (p : List ℕ). at core virt p) (sym creation-path) made.number));
          comes = subst (λ (k : Core). next k creation.entry.virt creation.entry.path) (sym same)
              (subst (λ (v : List ℕ). next core v creation.entry.path) (sym creation-virt)
              (subst (λ (p : List ℕ). next core virt p) (sym creation-path) comes));
        }

-- ---- what is changed

-- it stands at its number
pub record Stands (repositories : List Repository) (core : Core) (entry : Repository) (number : ℕ) : Type 0 where
  pub first : found core entry.virt entry.path ≡ Some number
  pub within : number < length repositories
  pub named : IfSome (slice_get repositories number) (λ (before : Repository). IsNamedAs before entry)

-- or it comes at the end, for which all is ready
pub record Comes (paths : Paths) (repositories : List Repository) (room : ℕ) (core : Core) (entry : Repository) (number : ℕ) : Type 0 where
  pub first : found core entry.virt entry.path ≡ None
  pub last : number ≡ length repositories
  pub fits : length repositories < room
  pub few : length repositories < 100000
  pub next : number_at paths entry.virt entry.path ≡ Some (length repositories)

module _ (paths : Paths) (core : Core) (next : Ready) (room : ℕ) (entry : Repository) (number : ℕ)
    (are : AreFound paths core.repositories) (is_ready : IsReady next paths core.repositories room)
    (numbered : number ≡ number_for core entry.virt entry.path)
    (comes : IsReadyFor (found core entry.virt entry.path) entry.virt entry.path next) where
  by : (at : Option ℕ) → found core entry.virt entry.path ≡ at
      → Stands core.repositories core entry number ⊎ Comes paths core.repositories room core entry number
  by None is =
      let same : next ≡ ready.Repository entry.virt entry.path =
      subst (λ (o : Option ℕ). IsReadyFor o entry.virt entry.path next) is comes in
      let both = subst (λ (r : Ready). IsReady r paths core.repositories room) same is_ready in
      inr (record {
        first = is;
        last = numbered ∙ ap (λ (o : Option ℕ). unwrap_or o (length core.repositories)) is;
        fits = both.0;
        few = both.2;
        next = both.1;
      })
  by (Some there) is =
      let same : number ≡ there = numbered ∙ ap (λ (o : Option ℕ). unwrap_or o (length core.repositories)) is in
      let old = is_there core entry.virt entry.path number (is ∙ ap (λ (n : ℕ). Some n) (sym same)) in
      inl (record {
        first = is ∙ ap (λ (n : ℕ). Some n) (sym same);
        within = old.within;
        named = subst (λ (o : Option Repository). IfSome o (λ (before : Repository). IsNamedAs before entry))
            (sym old.there) (sym old.virt_is, sym old.path_is);
      })

  stands_or_comes : Stands core.repositories core entry number ⊎ Comes paths core.repositories room core entry number
  stands_or_comes = by (found core entry.virt entry.path) refl

  stands : number < length core.repositories → Stands core.repositories core entry number
  stands within = ⊎_elim (λ it. it) (λ it. absurd (omega (arith, within, it.last))) stands_or_comes

  comes_last : length core.repositories ≤ number → Comes paths core.repositories room core entry number
  comes_last past = ⊎_elim (λ it. absurd (omega (arith, past, it.within))) (λ it. it) stands_or_comes

  -- where it stood
  stands-found : number < length core.repositories → AreFound paths (set core.repositories number entry)
  stands-found within = found_after paths core.repositories number entry are (stands within).named

  stands-created : number < length core.repositories → set core.repositories number entry
      ≡ (with_created (found core entry.virt entry.path) entry core).repositories
  stands-created within = ap (λ (o : Option ℕ). (with_created o entry core).repositories) (sym (stands within).first)

  -- at the end
  comes-found : length core.repositories ≤ number → AreFound paths (core.repositories ++ entry ∷ [])
  comes-found past = found_longer paths core.repositories entry are (comes_last past).next

  comes-created : length core.repositories ≤ number → core.repositories ++ entry ∷ []
      ≡ (with_created (found core entry.virt entry.path) entry core).repositories
  comes-created past = ap (λ (o : Option ℕ). (with_created o entry core).repositories) (sym (comes_last past).first)

-- what becomes of the repositories, by whether the number is one of theirs
pub record Becomes (paths : Paths) (book : Books) (room : ℕ) (creation : Creation) (repositories : List Repository) : Type 0 where
  pub stands_found : creation.repo.0 < length repositories
      → AreFound paths (set repositories creation.repo.0 creation.entry)
  pub stands_is : creation.repo.0 < length repositories → set repositories creation.repo.0 creation.entry
      ≡ (with_created (found (core_of book) creation.entry.virt creation.entry.path) creation.entry (core_of book)).repositories
  pub comes_fits : length repositories ≤ creation.repo.0 → length repositories < room
  pub comes_few : length repositories ≤ creation.repo.0 → length repositories < 100000
  pub comes_found : length repositories ≤ creation.repo.0
      → AreFound paths (repositories ++ creation.entry ∷ [])
  pub comes_is : length repositories ≤ creation.repo.0 → repositories ++ creation.entry ∷ []
      ≡ (with_created (found (core_of book) creation.entry.virt creation.entry.path) creation.entry (core_of book)).repositories

pub becomes : (paths : Paths) (book : Books) (room : ℕ) (creation : Creation) (repositories : List Repository) (next : Ready)
    → AreFound paths repositories → IsReady next paths repositories room
    → repositories ≡ book.repositories → next ≡ book.ready → Fits book creation
    → Becomes paths book room creation repositories
becomes paths book room creation repositories next are is same also fits =
    let found_now = subst (AreFound paths) same are in
    let ready_now = subst (λ (r : Ready). IsReady r paths book.repositories room) also
    (subst (λ (rs : List Repository). IsReady next paths rs room) same is) in
    subst (Becomes paths book room creation) (sym same) (record {
      stands_found = stands-found paths (core_of book) book.ready room creation.entry creation.repo.0 found_now ready_now fits.number fits.comes;
      stands_is = stands-created paths (core_of book) book.ready room creation.entry creation.repo.0 found_now ready_now fits.number fits.comes;
      comes_fits = λ past. (comes_last paths (core_of book) book.ready room creation.entry creation.repo.0 found_now ready_now fits.number fits.comes past).fits;
      comes_few = λ past. (comes_last paths (core_of book) book.ready room creation.entry creation.repo.0 found_now ready_now fits.number fits.comes past).few;
      comes_found = comes-found paths (core_of book) book.ready room creation.entry creation.repo.0 found_now ready_now fits.number fits.comes;
      comes_is = comes-created paths (core_of book) book.ready room creation.entry creation.repo.0 found_now ready_now fits.number fits.comes;
    })

-- one more is not too many
pub longer_few : (repositories : List Repository) (entry : Repository) → length repositories < 100000
    → length (repositories ++ entry ∷ []) ≤ 100000
longer_few repositories entry few = omega (arith, length-append repositories (entry ∷ []), few)

-- ---- what is made ready

pub made_ready : (old new : Paths) (before now : List Repository) (virt path : List ℕ) (number room : ℕ)
    → AreFound old before → now ≡ before
    → first_of (places_of (is_at_path virt path) before) ≡ None → PutsAt old new virt path number
    → number ≡ length now → length now < room → length now < 100000
    → AreFound new now × IsReady (ready.Repository virt path) new now room
made_ready old new before now virt path number room are same none puts is fits few =
    let found_now = subst (AreFound old) (sym same) are in
    let none_now = subst (λ (rs : List Repository). first_of (places_of (is_at_path virt path) rs) ≡ None) (sym same) none in (
      found_put old new now virt path number found_now puts (none_there now virt path none_now),
      (fits, number_put old new virt path number puts ∙ ap (λ (n : ℕ). Some n) is, few),
    )

-- ---- the storages that are assigned

pub first_assigned : (book : Books) (virt : List ℕ) (factor : ℕ) (storages : List StorageId)
    → numbers_of storages ≡ storages_of book.storages virt
    → numbers_of (if factor == 0 then storages else take factor storages)
    ≡ assigned_for (core_of book) virt factor
first_assigned book virt factor storages are = by (factor == 0) refl
  where
    by : (b : Bool) → (factor == 0) ≡ b → numbers_of (if b then storages else take factor storages)
        ≡ (if (if b then 0 else factor) == 0 then storages_of book.storages virt
        else take (if b then 0 else factor) (storages_of book.storages virt))
    by true is = are
    by false is = rw is
        (sym (take-map (λ (storage : StorageId). storage.0) factor storages) ∙ ap (take factor) are)
