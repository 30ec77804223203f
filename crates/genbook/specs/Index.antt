-- The indexes of the book: the number of a storage under its name, and that of a repository under
-- its virtual storage and its path.
use Rattle.std.specs.Prelude.{◌≡◌, ℕ, ◌<◌, ◌&&◌, List, length, slice_get, cond, Option, None, Some}
use Rattle.std.specs.BTreeMap.{BTreeMap}
use Rattle.std.specs.Map.{lookup}
use Rattle.px_base.specs.RefList.{is_name}
use Rattle.px_cluster.specs.Book.{Repository, Storage}
use Rattle.genbook.specs.declared.ready.Ready.{Ready}
use Rattle.genbook.specs.declared.ready.Ready.TheVariants as ready

-- names with the numbers of storages
abbrev pub Names : Type 0
Names = List (List ℕ × ℕ)

-- of each virtual storage the paths, with the numbers of repositories
abbrev pub Paths : Type 0
Paths = List (List ℕ × BTreeMap (List ℕ) ℕ)

-- the number under a name
abbrev pub number_of : Names → List ℕ → Option ℕ
number_of names name = lookup (is_name name) names

-- the number under a path, among the paths of a virtual storage if there are any
abbrev pub number_under : Option (BTreeMap (List ℕ) ℕ) → List ℕ → Option ℕ
number_under None path = None
number_under (Some paths) path = number_of paths.entries path

-- the number under a virtual storage and a path
abbrev pub number_at : Paths → List ℕ → List ℕ → Option ℕ
number_at paths virt path = number_under (lookup (is_name virt) paths) path

-- each storage is found under its number by its name
abbrev pub AreNamed : Names → List Storage → Type 0
AreNamed names storages = (id : ℕ) (storage : Storage) → slice_get storages id ≡ Some storage
    → number_of names storage.name ≡ Some id

-- each repository is found under its number by its virtual storage and path
abbrev pub AreFound : Paths → List Repository → Type 0
AreFound paths repositories = (id : ℕ) (repo : Repository) → slice_get repositories id ≡ Some repo
    → number_at paths repo.virt repo.path ≡ Some id

-- under the name stands this number, and all else is as before
abbrev pub Puts : Names → Names → List ℕ → ℕ → Type 0
Puts old new name number = (q : List ℕ)
    → number_of new q ≡ cond (is_name name q) (Some number) (number_of old q)

-- the paths of the virtual storage are these, and all else is as before
abbrev pub PutsBelow : Paths → Paths → List ℕ → BTreeMap (List ℕ) ℕ → Type 0
PutsBelow old new virt below = (q : List ℕ)
    → lookup (is_name q) new ≡ cond (is_name virt q) (Some below) (lookup (is_name q) old)

-- under the virtual storage and path stands this number, and all else is as before
abbrev pub PutsAt : Paths → Paths → List ℕ → List ℕ → ℕ → Type 0
PutsAt old new virt path number = (v p : List ℕ) → number_at new v p
    ≡ cond (is_name virt v && is_name path p) (Some number) (number_at old v p)

-- each number stands where it did
abbrev pub StaysAt : Paths → Paths → Type 0
StaysAt old new = (v p : List ℕ) → number_at new v p ≡ number_at old v p

-- the repository that is ready to come has its number, there is room for it, and with it there are
-- not too many
abbrev pub IsReady : Ready → Paths → List Repository → ℕ → Type 0
IsReady ready.Nothing paths repositories room = Unit {0}
IsReady (ready.Storage name) paths repositories room = Unit {0}
IsReady (ready.Repository virt path) paths repositories room = (length repositories < room)
    × (number_at paths virt path ≡ Some (length repositories)) × (length repositories < 100000)

-- the storage that is ready to come has its number, and there is room for it
abbrev pub IsNext : Ready → Names → List Storage → ℕ → Type 0
IsNext ready.Nothing names storages room = Unit {0}
IsNext (ready.Repository virt path) names storages room = Unit {0}
IsNext (ready.Storage name) names storages room = (length storages < room)
    × (number_of names name ≡ Some (length storages))
