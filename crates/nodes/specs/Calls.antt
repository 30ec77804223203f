-- How a call at the node of one storage ends: what it answers, and what it leaves.
use Rattle.std.specs.Prelude.{◌≡◌, ℕ, true, false, List, Option, Result, Ok, Err}
use Rattle.px_ops.specs.declared.node_refusal.NodeRefusal.{NodeRefusal}
use Rattle.px_ops.specs.declared.node_refusal.NodeRefusal.TheVariants.{NoRepo}
use Rattle.node_calls.specs.ReplicaState.{ReplicaState, raised}
use Rattle.px_cluster.specs.Cluster.{with_state, with_value}
use Rattle.nodes.specs.State.{NodesState}
use Rattle.nodes.specs.declared.fault.NodeFault.{NodeFault}
use Rattle.nodes.specs.declared.fault.NodeFault.TheVariants.{Memory, Refused}

-- the node of the storage has this of the repository, and all else is as it was
abbrev pub with_replica : NodesState → ℕ → List ℕ → ReplicaState → NodesState
with_replica nodes storage path state = record nodes {
  node = with_value nodes.node storage (with_state (nodes.node storage) path state);
}

-- ---- calls that change a replica: `refuses` and `does` are the node's own

module _ {A : Type 0} (refuses : ReplicaState → NodeRefusal → Type 0)
    (does : ReplicaState → A → ReplicaState → Type 0) (storage : ℕ) (path : List ℕ)
    (old : NodesState) where
  -- the node did it, and answered so
  pub record IsDone (answer : A) (new : NodesState) : Type 0 where
    pub state : ReplicaState
    pub does_ : does (old.node storage path) answer state
    pub changes : new ≡ with_replica old storage path state

  -- it was done; or the node refused it, or memory wanted, and nothing changed
  abbrev pub Delivered : Result A NodeFault → NodesState → Type 0
  Delivered (Ok answer) new = IsDone answer new
  Delivered (Err (Refused why)) new = refuses (old.node storage path) why × (new ≡ old)
  Delivered (Err Memory) new = new ≡ old

-- ---- a fence: it is raised, also where the repository is not held, which is then refused

module _ (lease storage : ℕ) (path : List ℕ) (old : NodesState) where
  abbrev pub IsRaised : NodesState → Type 0
  IsRaised new =
      new ≡ with_replica old storage path (raised lease (old.node storage path))

  abbrev pub Fenced : Result (Option ℕ) NodeFault → NodesState → Type 0
  Fenced (Ok last) new = ((old.node storage path).held ≡ true)
      × (last ≡ (old.node storage path).last) × IsRaised new
  Fenced (Err (Refused why)) new =
      ((old.node storage path).held ≡ false) × (why ≡ NoRepo) × IsRaised new
  Fenced (Err Memory) new = new ≡ old

-- ---- calls that only read: what is answered of a repository that is held

module _ {A : Type 0} (IsAnswer : ReplicaState → A → Type 0) (storage : ℕ) (path : List ℕ)
    (old : NodesState) where
  abbrev pub Reads : Result A NodeFault → NodesState → Type 0
  Reads (Ok answer) new = ((old.node storage path).held ≡ true)
      × IsAnswer (old.node storage path) answer × (new ≡ old)
  Reads (Err (Refused why)) new =
      ((old.node storage path).held ≡ false) × (why ≡ NoRepo) × (new ≡ old)
  Reads (Err Memory) new = new ≡ old
