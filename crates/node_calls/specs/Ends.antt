-- How a call on a node ends, where the node tells what it has, and when it faults.
use Rattle.std.specs.Prelude.{◌≡◌, ◌⊎◌, ◌≤◌, ℕ, true, false, List, Option, None, Some, Result, Ok, Err}
use Rattle.std.specs.List.{list_any}
use Rattle.px_base.specs.Causes.{Rose}
use Rattle.px_base.specs.PathList.{IsPathList}
use Rattle.px_base.specs.RefList.{is_name}
use Rattle.node_calls.specs.ReplicaState.{Changes, NodeState, ReplicaState, Same, raised}
use Rattle.node_calls.specs.declared.node.NodeError.{NodeError}
use Rattle.node_calls.specs.declared.node.NodeError.TheVariants.{Fault, Memory, Refused}
use Rattle.px_ops.specs.declared.node_refusal.NodeRefusal.{NodeRefusal}
use Rattle.px_ops.specs.declared.node_refusal.NodeRefusal.TheVariants.{NoRepo}

-- a node tells before and after, or neither time
abbrev pub Told : (NodeState → NodeState → Type 0) → Option NodeState → Option NodeState → Type 0
Told R None None = Unit {0}
Told R (Some old) (Some new) = R old new
Told R None (Some new) = ⊥
Told R (Some old) None = ⊥

-- ---- calls that change a repository

module _ {A : Type 0} (refuses : ReplicaState → NodeRefusal → Type 0) (does : ReplicaState → A → ReplicaState → Type 0)
    (path : List ℕ) where
  -- the call was done, and answered so
  pub record IsDone (old new : NodeState) (answer : A) : Type 0 where
    pub place : ReplicaState
    pub does_ : does (old path) answer place
    pub changes : Changes old new path place

  -- the node is as before the call, or as after it
  abbrev pub IsEither : NodeState → NodeState → Type 0
  IsEither old new = Same old new ⊎ ((answer : A) × IsDone old new answer)

  -- an answer comes once the call is done; a refusal changes nothing; and a fault or want of memory
  -- may come before or after the effect
  abbrev pub Ends : Result A NodeError → NodeState → NodeState → Type 0
  Ends (Ok answer) old new = IsDone old new answer
  Ends (Err (Refused r)) old new = refuses (old path) r × Same old new
  Ends (Err Fault) old new = IsEither old new
  Ends (Err Memory) old new = IsEither old new

-- ---- fence: the fence is raised, also where the repository is not held, which is then refused

module _ (lease : ℕ) (path : List ℕ) where
  abbrev pub IsRaised : NodeState → NodeState → Type 0
  IsRaised old new = Changes old new path (raised lease (old path))

  abbrev pub FenceEnds : Result (Option ℕ) NodeError → NodeState → NodeState → Type 0
  FenceEnds (Ok last) old new =
      ((old path).held ≡ true) × (last ≡ (old path).last) × IsRaised old new
  FenceEnds (Err (Refused r)) old new = ((old path).held ≡ false) × (r ≡ NoRepo) × IsRaised old new
  FenceEnds (Err Fault) old new = Same old new ⊎ IsRaised old new
  FenceEnds (Err Memory) old new = Same old new ⊎ IsRaised old new

-- ---- calls that only read

module _ {A : Type 0} (IsAnswer : ReplicaState → A → Type 0) (path : List ℕ) where
  abbrev pub ReadEnds : Result A NodeError → NodeState → NodeState → Type 0
  ReadEnds (Ok answer) old new =
      ((old path).held ≡ true) × IsAnswer (old path) answer × Same old new
  ReadEnds (Err (Refused r)) old new = ((old path).held ≡ false) × (r ≡ NoRepo) × Same old new
  ReadEnds (Err Fault) old new = Same old new
  ReadEnds (Err Memory) old new = Same old new

-- the paths are those of the repositories that are held
abbrev pub ArePaths : NodeState → List (List ℕ) → Type 0
ArePaths node paths =
    IsPathList paths × ((path : List ℕ) → list_any (is_name path) paths ≡ (node path).held)

abbrev pub ListEnds : Result (List (List ℕ)) NodeError → NodeState → NodeState → Type 0
ListEnds (Ok paths) old new = ArePaths old paths × Same old new
ListEnds (Err e) old new = Same old new

abbrev pub PingEnds : NodeState → NodeState → Type 0
PingEnds old new = Same old new

-- ---- faults

-- a fault comes only where the count rose, and the count stays otherwise
abbrev pub NodeHasCause : {A : Type 0} → ℕ → ℕ → Result A NodeError → Type 0
NodeHasCause before now (Ok answer) = now ≡ before
NodeHasCause before now (Err Fault) = (before ≤ now) × Rose before now
NodeHasCause before now (Err Memory) = now ≡ before
NodeHasCause before now (Err (Refused r)) = now ≡ before
