-- The book as the rules have it: the storages and the repositories of the core.
use Rattle.std.specs.Prelude.{◌≡◌, ℕ, ◌<◌, length, slice_get, List, Option, None, Some}
use Rattle.std.specs.Option.{option_map}
use Rattle.px_base.specs.declared.ids.StorageId.{StorageId}
use Rattle.px_ops.specs.declared.refusal.Refusal.{Refusal}
use Rattle.px_ops.specs.declared.refusal.Refusal.TheVariants as refusal
use Rattle.genbook.specs.declared.ready.Ready.{Ready}
use Rattle.px_cluster.specs.Book.{Replica, Repository, Storage}
use Rattle.px_cluster.specs.Core.{Core, empty, repository, with_book_changed}
use Rattle.px_cluster.specs.Creating.{has_name, unknown_storage}
use Rattle.px_cluster.specs.Ids.{storage_id}
use Rattle.px_cluster.specs.Numbers.{first_of, places_of}

-- storages and repositories, each by its number, and what is ready to come
pub record Books : Type 0 where
  pub storages : List Storage
  pub repositories : List Repository
  pub ready : Ready

-- a core that has this book, and in which nobody has a turn
abbrev pub core_of : Books → Core
core_of book =
    record empty { storages = book.storages; repositories = book.repositories }

-- the repository of a number
abbrev pub on_book : Books → ℕ → Option Repository
on_book book repo = repository (core_of book) repo

-- the repository of a number is on the book
abbrev pub Has : Books → ℕ → Type 0
Has book repo = repo < length book.repositories

-- it is still the repository of its virtual storage and path
abbrev pub IsNamedAs : Repository → Repository → Type 0
IsNamedAs old new = (new.virt ≡ old.virt) × (new.path ≡ old.path)

-- the repository of a number is changed, and nothing else
abbrev pub Becomes : ℕ → (Repository → Repository) → Books → Books → Type 0
Becomes repo change old new = core_of new ≡ with_book_changed repo change (core_of old)

-- there is no such repository, or it can have no replica on that storage
abbrev pub place_refusal : Core → Option Repository → ℕ → Option Refusal
place_refusal core None storage = Some refusal.UnknownRepo
place_refusal core (Some repo) storage = unknown_storage core repo storage

-- the storage of a place among those of the replicas
abbrev pub storage_at : Option Repository → ℕ → Option ℕ
storage_at None place = None
storage_at (Some repo) place =
    option_map (λ (replica : Replica). replica.storage) (slice_get repo.replicas place)

-- the number of a storage and its virtual storage, where there is one of that number
abbrev pub with_virtual : List Storage → Option ℕ → Option (StorageId × List ℕ)
with_virtual storages None = None
with_virtual storages (Some number) =
    option_map (λ (known : Storage). (storage_id number, known.virt)) (slice_get storages number)

-- the same of the storage of a name
abbrev pub known_as : List Storage → List ℕ → Option (StorageId × List ℕ)
known_as storages name = with_virtual storages (first_of (places_of (has_name name) storages))
