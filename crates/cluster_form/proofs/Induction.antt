-- What each move keeps is true after every list of moves.
use Rattle.std.proofs.Common.{◌≡◌, ℕ, List, [], ◌∷◌, Option, None, Some, refl, sym, subst}
use Rattle.std.specs.Option.{option_or}
use Rattle.node_calls.specs.ReplicaState.{NodeState}
use Rattle.px_cluster.specs.Astray.{Move, MovesOn}
use Rattle.px_cluster.specs.Cluster.{Cluster, starting_with}
use Rattle.cluster_form.specs.Always.{HoldsAlways, IsKept}

-- ---- every list of moves

pub always : (P : Cluster → Type 0) → IsKept P → ((node : ℕ → NodeState) → P (starting_with node))
    → HoldsAlways P
always P kept start node moves new is = on moves (starting_with node) (start node) is
  where
    on : (moves : List Move) (old : Cluster) → P old → MovesOn old moves new → P new
    on [] old holds is = subst P (sym is) holds
    on (move ∷ moves) old holds is = on moves is.0 (kept old is.0 move holds is.1) is.2

-- ---- the first refusal of some

pub first_none : {A : Type 0} (first later : Option A) → option_or first later ≡ None
    → first ≡ None
first_none None later is = refl
first_none (Some x) later is = absurd (cc)
