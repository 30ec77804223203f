-- What a shelf has of each repository.
use Rattle.std.specs.Prelude.{◌≡◌, ℕ, List, IsSome, Option, Some, cond}
use Rattle.std.specs.Map.{lookup}
use Rattle.std.specs.Option.{unwrap_or}
use Rattle.px_base.specs.RefList.{is_name}
use Rattle.px_base.specs.RepoPath.{IsRepoPath}
use Rattle.px_keeper.specs.Row.{Rows}
use Rattle.node_calls.specs.Lawful.{IsLawfulReplica}
use Rattle.node_calls.specs.ReplicaState.{NodeState, ReplicaState, Same, nothing}
use Rattle.node_rows.specs.Rows.{StandFor}

-- replicas under their paths, in the order of the paths
abbrev pub Replicas : Type 0
Replicas = List (List ℕ × ReplicaState)

-- what is there under a path, and nothing where the path is not there
abbrev pub place_at : Replicas → NodeState
place_at replicas path = unwrap_or (lookup (is_name path) replicas) nothing

-- under the path stands this, and all else is as before
abbrev pub Puts : Replicas → Replicas → List ℕ → ReplicaState → Type 0
Puts old new path place = (q : List ℕ)
    → lookup (is_name q) new ≡ cond (is_name path q) (Some place) (lookup (is_name q) old)

-- under each path is what a place may have, and only under paths is there anything
pub record AreLawful (replicas : Replicas) : Type 0 where
  pub places : (path : List ℕ) → IsLawfulReplica (place_at replicas path)
  pub paths : (path : List ℕ) → IsSome (lookup (is_name path) replicas) → IsRepoPath path

-- ---- the rows of its keeper, where the keeper tells them

-- they stand for the node
abbrev pub RowsStand : Option Rows → NodeState → Type 0
RowsStand kept node = (rows : Rows) → kept ≡ Some rows → StandFor rows node

-- ---- calls that were not done

-- the node has of each repository what it had, and the keeper its rows
abbrev pub Stays : NodeState → NodeState → Option Rows → Option Rows → Type 0
Stays old new rows rows' = Same old new × (rows' ≡ rows)
