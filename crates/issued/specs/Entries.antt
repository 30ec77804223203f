-- What was issued, as it lies in memory.
use Rattle.std.specs.Prelude.{ℕ, List, Option}
use Rattle.px_base.specs.declared.ids.RepoId.{RepoId}
use Rattle.px_base.specs.declared.ids.StorageId.{StorageId}
use Rattle.issued.specs.Draws.{Draws}

-- each transaction that there is room for, with the repository and the lease of its push, where
-- that began
abbrev pub Pushes : Type 0
Pushes = List (ℕ × Option (RepoId × ℕ))

-- each job that there is room for, with its repository and target, where it was taken
abbrev pub Works : Type 0
Works = List (ℕ × Option (RepoId × StorageId))

pub record Entries : Type 0 where
  pub draws : Draws
  pub pushes : Pushes
  pub works : Works
