-- The cluster: the core, the nodes, and what was issued to them and answered by them.
use Rattle.std.specs.Prelude.{ℕ, ◌==◌, if◌then◌else◌, List, Option, None}
use Rattle.std.specs.Str.{bytes_eq}
use Rattle.node_calls.specs.ReplicaState.{NodeState, ReplicaState, nothing}
use Rattle.px_cluster.specs.Core.{Core}
use Rattle.px_cluster.specs.Core as core
use Rattle.px_cluster.specs.Ledger.{Ledger, unused}

-- where the effects of a push or of a job go: its repository, and the lease of the push or the target
-- of the job
pub record Destination : Type 0 where
  pub repo : ℕ
  pub number : ℕ

-- Each storage has a node. `pushed` leads from each transaction of a push that ever began to its
-- repository and lease, and `worked` from each job that was ever taken to its repository and target.
-- Both only grow: an effect that was issued may be delivered at any time, also after the end of its
-- push or job.
pub record Cluster : Type 0 where
  pub core : Core
  pub node : ℕ → NodeState
  pub ledger : Ledger
  pub pushed : ℕ → Option Destination
  pub worked : ℕ → Option Destination

-- nothing is on record yet; the nodes may hold something, as repositories that are not tracked
abbrev pub starting_with : (ℕ → NodeState) → Cluster
starting_with node = record {
  core = core.empty;
  node = node;
  ledger = unused;
  pushed = λ tx. None;
  worked = λ job. None;
}

-- the empty cluster: no node holds anything
abbrev pub empty : Cluster
empty = starting_with (λ storage path. nothing)

-- ---- what changes

-- the function with another value at one number
abbrev pub with_value : {A : Type 0} → (ℕ → A) → ℕ → A → ℕ → A
with_value f number value x = if x == number then value else f x

-- the node has something else of one repository
abbrev pub with_state : NodeState → List ℕ → ReplicaState → NodeState
with_state node path state other = if bytes_eq other path then state else node other

abbrev pub with_node : Cluster → ℕ → List ℕ → ReplicaState → Cluster
with_node cluster storage path state = record cluster {
  node = with_value cluster.node storage (with_state (cluster.node storage) path state);
}

abbrev pub with_ledger : Cluster → Ledger → Cluster
with_ledger cluster ledger = record cluster { ledger = ledger }
