-- What is seen of the nodes of storages.
use Rattle.std.specs.Prelude.{◌≡◌, ◌+◌, ◌<◌, ℕ, Bool, false, if◌then◌else◌, List, length, slice_get, Option, None, Some}
use Rattle.node_calls.specs.ReplicaState.{NodeState, nothing}
use Rattle.px_node.specs.Shelf.{Replicas, place_at}

-- what the nodes keep, in the order of their storages, and whether one more node is ready to be
-- added
pub record KeptNodes : Type 0 where
  pub nodes : List Replicas
  pub ready : Bool

-- what the node of each storage has, how many storages have one, and whether one more is ready
pub record NodesState : Type 0 where
  pub node : ℕ → NodeState
  pub count : ℕ
  pub ready : Bool

-- what a node has, and nothing where there is none
abbrev pub had_by : Option Replicas → NodeState
had_by None = λ path. nothing
had_by (Some replicas) = place_at replicas

abbrev pub state_of : KeptNodes → NodesState
state_of kept = record {
  node = λ storage. had_by (slice_get kept.nodes storage);
  count = length kept.nodes;
  ready = kept.ready;
}

-- no storage has a node
abbrev pub no_nodes : NodesState
no_nodes = record { node = λ storage path. nothing; count = 0; ready = false }

-- the node that is ready, if there is one, is that of the next storage; what each node has is as it
-- was, since a new one has nothing
abbrev pub with_ready : NodesState → NodesState
with_ready nodes = record {
  node = nodes.node;
  count = if nodes.ready then nodes.count + 1 else nodes.count;
  ready = false;
}

-- a node is ready: there is room for it beside so many others, and it has nothing
pub record IsReady (count capacity : ℕ) (replicas : Replicas) : Type 0 where
  pub room : count < capacity
  pub empty : (path : List ℕ) → place_at replicas path ≡ nothing
