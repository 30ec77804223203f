-- The lists of the core that go by dense numbers are as long as they should be, and a name is given once.
use Rattle.std.specs.Prelude.{◌≡◌, ℕ, List, length, slice_get, Some}
use Rattle.px_cluster.specs.Book.{Storage}
use Rattle.px_cluster.specs.Core.{Core}

-- two storages have two names
abbrev pub AreNamesApart : List Storage → Type 0
AreNamesApart storages = (one other : ℕ) (a b : Storage) → slice_get storages one ≡ Some a
    → slice_get storages other ≡ Some b → a.name ≡ b.name → one ≡ other

-- of each storage it is known whether it is up, and of each repository how many reads were routed
pub record AreTables (core : Core) : Type 0 where
  pub health : length core.health ≡ length core.storages
  pub reads : length core.reads ≡ length core.repositories
  pub names : AreNamesApart core.storages
