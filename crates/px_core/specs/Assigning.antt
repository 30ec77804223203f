-- Which storages are assigned once a repository has another factor.
use Rattle.std.specs.Prelude.{◌≡◌, ℕ, List, None, Some}
use Rattle.px_cluster.specs.Book.{Repository}
use Rattle.px_cluster.specs.Core.{Core, repository}
use Rattle.px_cluster.specs.Factor.{assignment, factor_refusal}
use Rattle.genbook.specs.Changes.{AreAscending}

-- nothing refuses the factor, and these are the storages that the rule assigns, by number
pub record IsAssignment (core : Core) (repo factor : ℕ) (storages : List ℕ) : Type 0 where
  pub accepted : factor_refusal core repo (repository core repo) factor ≡ None
  pub book : Repository
  pub there : repository core repo ≡ Some book
  pub by_rule : storages ≡ assignment core book factor
  pub ascending : AreAscending storages
