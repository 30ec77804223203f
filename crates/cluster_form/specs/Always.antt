-- What each move keeps, and what is true after every list of moves.
use Rattle.std.specs.Prelude.{ℕ, List}
use Rattle.node_calls.specs.ReplicaState.{NodeState}
use Rattle.px_ops.specs.declared.op.Op.{Op}
use Rattle.px_cluster.specs.Astray.{Move, Moves, MovesOn}
use Rattle.px_cluster.specs.Cluster.{Cluster, starting_with}
use Rattle.px_cluster.specs.Core.{Core, restarted}
use Rattle.px_cluster.specs.Ops.{next_core}

-- what is true of the core
abbrev pub OfCore : (Core → Type 0) → Cluster → Type 0
OfCore P cluster = P cluster.core

-- it is still true after any move: an event with its answer, an effect whose answer is lost, or a loss
-- of pushes that were ready
abbrev pub IsKept : (Cluster → Type 0) → Type 0
IsKept P = (old new : Cluster) (move : Move) → P old → Moves old move new → P new

-- what is true of a core alone is still true after any operation, refused or not, whatever the nodes
-- answered
abbrev pub IsKeptByOps : (Core → Type 0) → Type 0
IsKeptByOps P = (core : Core) (asked : Op) → P core → P (next_core core asked)

-- .. and after a restart
abbrev pub IsKeptByRestarts : (Core → Type 0) → Type 0
IsKeptByRestarts P = (core : Core) → P core → P (restarted core)

-- it is true after every list of moves from an empty book on, whatever the nodes held before
abbrev pub HoldsAlways : (Cluster → Type 0) → Type 0
HoldsAlways P = (node : ℕ → NodeState) (moves : List Move) (new : Cluster)
    → MovesOn (starting_with node) moves new → P new
