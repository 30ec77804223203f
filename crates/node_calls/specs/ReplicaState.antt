-- What a node has of each repository.
use Rattle.std.specs.Prelude.{◌≡◌, ◌≢◌, ℕ, Bool, false, max, List, [], nat_lt, if◌then◌else◌, Option, None, Some}
use Rattle.px_base.specs.Object.{GitObject}
use Rattle.px_base.specs.RefList.{References}
use Rattle.px_base.specs.declared.push.Update.{Update}
use Rattle.objstore.specs.Entries.{Entries}

-- a push that is ready to be done: the lease that it came under, its updates, and the objects that
-- came with it
pub record ReadyPush : Type 0 where
  pub lease : ℕ
  pub updates : List Update
  pub objects : List GitObject

-- what a node has of one repository: whether it is held, its references and objects, the fence, which
-- is the least lease that an effect may carry, the lease of the last push that was done, and the push
-- that is ready, if there is one
pub record ReplicaState : Type 0 where
  pub held : Bool
  pub refs : References
  pub objects : Entries
  pub fence : ℕ
  pub last : Option ℕ
  pub ready : Option ReadyPush

-- what it has of one that it never heard of
abbrev pub nothing : ReplicaState
nothing = record {
  held = false;
  refs = [];
  objects = [];
  fence = 0;
  last = None;
  ready = None;
}

-- what it has without the push that is ready
abbrev pub without_ready : ReplicaState → ReplicaState
without_ready place = record place { ready = None }

-- ---- nodes

-- a node: what it has of each repository, by its path
abbrev pub NodeState : Type 0
NodeState = List ℕ → ReplicaState

-- the node has of each repository what it had
abbrev pub Same : NodeState → NodeState → Type 0
Same old new = (path : List ℕ) → new path ≡ old path

-- it has this of the repository, and of each other what it had
pub record Changes (old new : NodeState) (path : List ℕ) (place : ReplicaState) : Type 0 where
  pub here : new path ≡ place
  pub others : (other : List ℕ) → other ≢ path → new other ≡ old other

-- ---- fences

-- a ready push whose lease is below the fence is dropped
abbrev pub kept_above : ℕ → Option ReadyPush → Option ReadyPush
kept_above fence None = None
kept_above fence (Some push) = if nat_lt push.lease fence then None else Some push

-- the fence is raised to the number, where that is above it
abbrev pub raised : ℕ → ReplicaState → ReplicaState
raised to place = record {
  held = place.held;
  refs = place.refs;
  objects = place.objects;
  fence = max place.fence to;
  last = place.last;
  ready = kept_above (max place.fence to) place.ready;
}
