-- Lists of paths of repositories.
use Rattle.std.specs.Prelude.{ℕ, List}
use Rattle.std.specs.List.{AllByRecursion}
use Rattle.std.specs.List.Sorted.{IsStrictlySortedBy}
use Rattle.px_base.specs.RefList.{name_cmp}
use Rattle.px_base.specs.RepoPath.{IsRepoPath}

-- paths in the order of their bytes, each once
pub record IsPathList (paths : List (List ℕ)) : Type 0 where
  pub ordered : IsStrictlySortedBy name_cmp paths
  pub lawful : AllByRecursion IsRepoPath paths
