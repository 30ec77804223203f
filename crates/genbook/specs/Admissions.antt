-- What an admission makes, and when it is one that the book has made ready for.
use Rattle.std.specs.Prelude.{◌≡◌, ◌<◌, ◌-◌, ◌^◌, ℕ, List, length, map}
use Rattle.px_cluster.specs.Core.{Core}
use Rattle.genbook.specs.Books.{Books}
use Rattle.genbook.specs.Longer.{longer_for}
use Rattle.genbook.specs.declared.admission.Admission.{Admission}
use Rattle.genbook.specs.declared.ready.Ready.TheVariants as ready

-- what the admission of a storage of a virtual storage makes
pub record IsAdmission (core : Core) (virt name : List ℕ) (admission : Admission) : Type 0 where
  pub number : admission.storage.0 ≡ length core.storages
  pub virt_is : admission.virt ≡ virt
  pub name_is : admission.name ≡ name
  pub longer : admission.longer.items
      ≡ map (longer_for virt (length core.storages)) core.repositories

-- the storage has the next number and is ready, and so are the replicas of each repository
pub record Awaits (book : Books) (admission : Admission) : Type 0 where
  pub next : book.ready ≡ ready.Storage admission.name
  pub left : length book.storages < 2 ^ 32 - 1
  pub longer : admission.longer.items
      ≡ map (longer_for admission.virt (length book.storages)) book.repositories
