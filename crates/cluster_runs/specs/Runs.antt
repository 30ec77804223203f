-- Lists of moves, with what is remembered beside the cluster.
use Rattle.std.specs.Prelude.{◌≡◌, ℕ, false, List, [], ◌∷◌, None}
use Rattle.node_calls.specs.ReplicaState.{NodeState}
use Rattle.px_cluster.specs.Astray.{GoesAstray, Happens, IsLost, Move, Moves}
use Rattle.px_cluster.specs.Cluster.{Cluster, starting_with}
use Rattle.replica_invariant.specs.Contents.{Updates, Vote}
use Rattle.cluster_history.specs.Goes.{GoesOn, IsOneList, IsSound}
use Rattle.cluster_history.specs.History.{History, Whole, given}
use Rattle.cluster_history.specs.Remembered.{after_move}

-- the moves lead from the one to the other, one after the other
abbrev pub IsRun : Whole → List Move → Whole → Type 0
IsRun old [] new = new ≡ old
IsRun old (move ∷ moves) new =
    (then_ : Cluster) × Moves old.cluster move then_ × IsRun (after_move old move then_) moves new

-- nothing is on record yet; the lists of updates with a vote may be any
abbrev pub nothing_yet : (ℕ → ℕ → Vote → Updates) → History
nothing_yet text = record {
  entry = λ repo generation. given;
  text = text;
  floor = λ repo storage. None;
  level = λ repo storage. None;
  had = λ repo storage. false;
  read_at = λ repo storage lease. 0;
}

abbrev pub starting : (ℕ → NodeState) → (ℕ → ℕ → Vote → Updates) → Whole
starting node text = record { cluster = starting_with node; history = nothing_yet text }

-- the premise on hashes, of one move
abbrev pub HasOneList : Whole → Move → Type 0
HasOneList whole (Happens happened answer) = IsOneList whole happened
HasOneList whole (GoesAstray happened) = IsOneList whole happened
HasOneList whole (IsLost storage test) = Unit {0}

-- Each move is to each repository a list of its own events, or its creation.
abbrev pub EachMoveGoesOn : Type 0
EachMoveGoesOn = (old : Whole) (move : Move) (new : Cluster) → IsSound old → HasOneList old move
    → Moves old.cluster move new → GoesOn old (after_move old move new)
