-- What a delivery to a node answers, and what it leaves.
use Rattle.std.specs.Prelude.{◌≡◌, ◌⊎◌, true, false, length, if◌then◌else◌, Option, None, Some}
use Rattle.px_ops.specs.declared.node_refusal.NodeRefusal.{NodeRefusal}
use Rattle.px_ops.specs.declared.node_refusal.NodeRefusal.TheVariants.{NoRepo}
use Rattle.px_ops.specs.declared.refusal.Refusal.TheVariants.{Node, NotOut}
use Rattle.node_calls.specs.Reads.{IsSnapshot}
use Rattle.node_calls.specs.ReplicaState.{ReplicaState, raised}
use Rattle.node_calls.specs.declared.snapshot.Snapshot.{Snapshot}
use Rattle.px_cluster.specs.Cluster.{Cluster, with_ledger, with_node}
use Rattle.px_cluster.specs.Effects.{Effect, Location, purpose_at, state_at}
use Rattle.px_cluster.specs.Events.{Answer, LastIs, RefsAre, SnapshotIs, refused}
use Rattle.px_cluster.specs.Ledger.{Purpose, with_last, with_purpose, with_snapshot}

-- the node has this of the replica
abbrev pub with_state_at : Cluster → Location → ReplicaState → Cluster
with_state_at cluster location state = with_node cluster location.storage location.path state

-- the answer to an effect is kept
abbrev pub with_answer : Cluster → Effect → (Purpose → Purpose) → Cluster
with_answer cluster effect keeps = with_ledger cluster (with_purpose cluster.ledger
    effect.at.repo effect.at.storage effect.lease (keeps (purpose_at cluster effect)))

-- what was not issued is not delivered
abbrev pub IsNotOut : Cluster → Answer → Cluster → Type 0
IsNotOut old answer new = (answer ≡ refused NotOut) × (new ≡ old)

-- ---- a call that changes a replica: `refuses` and `does` are the node's own, `tells` says how its
-- answer is told, and `keeps` what the ledger keeps of it

module _ {A : Type 0} (refuses : ReplicaState → NodeRefusal → Type 0)
    (does : ReplicaState → A → ReplicaState → Type 0) (tells : A → Answer)
    (keeps : Purpose → Purpose) (old : Cluster) where
  -- the node refused it, and nothing changed
  pub record IsRefusal (effect : Effect) (answer : Answer) (new : Cluster) : Type 0 where
    pub why : NodeRefusal
    pub refuses_ : refuses (state_at old effect.at) why
    pub answer_ : answer ≡ refused (Node why)
    pub same : new ≡ old

  -- the node did it
  pub record IsDone (effect : Effect) (answer : Answer) (new : Cluster) : Type 0 where
    pub result : A
    pub state : ReplicaState
    pub does_ : does (state_at old effect.at) result state
    pub answer_ : answer ≡ tells result
    pub changes : new ≡ with_answer (with_state_at old effect.at state) effect keeps

  abbrev pub Delivers : Option Effect → Answer → Cluster → Type 0
  Delivers None answer new = IsNotOut old answer new
  Delivers (Some effect) answer new = IsRefusal effect answer new ⊎ IsDone effect answer new

-- ---- a fence: it is raised, also where the repository is not held, which is then refused

abbrev pub fence_told : ReplicaState → Answer
fence_told state = if state.held then LastIs state.last else refused (Node NoRepo)

-- the last lease is kept, where it is answered
abbrev pub fence_kept : ReplicaState → Purpose → Purpose
fence_kept state purpose = if state.held then with_last state.last purpose else purpose

abbrev pub fenced : Cluster → Effect → ReplicaState → Cluster
fenced old effect state = with_answer
    (with_state_at old effect.at (raised effect.lease state)) effect (fence_kept state)

abbrev pub Fences : Cluster → Option Effect → Answer → Cluster → Type 0
Fences old None answer new = IsNotOut old answer new
Fences old (Some effect) answer new =
    (answer ≡ fence_told (state_at old effect.at))
    × (new ≡ fenced old effect (state_at old effect.at))

-- ---- readings

abbrev pub refs_told : ReplicaState → Answer
refs_told state = if state.held then RefsAre state.refs else refused (Node NoRepo)

-- the references of a replica are read
abbrev pub ReadsRefs : Cluster → Option Location → Answer → Cluster → Type 0
ReadsRefs old None answer new = IsNotOut old answer new
ReadsRefs old (Some location) answer new =
    (answer ≡ refs_told (state_at old location)) × (new ≡ old)

-- a snapshot of the source is taken, and kept in the place of an older one
pub record IsTaken (old : Cluster) (source : ReplicaState) (effect : Effect) (answer : Answer)
    (new : Cluster) : Type 0 where
  pub snapshot : Snapshot
  pub held : source.held ≡ true
  pub is : IsSnapshot source snapshot
  pub answer_ : answer ≡ SnapshotIs (length snapshot.refs) (length snapshot.objects)
  pub kept : new ≡ with_answer old effect (with_snapshot snapshot)

-- the source does not hold the repository, and an older snapshot stays
pub record IsNotHeld (old : Cluster) (source : ReplicaState) (answer : Answer) (new : Cluster)
    : Type 0 where
  pub missing : source.held ≡ false
  pub answer_ : answer ≡ refused (Node NoRepo)
  pub same : new ≡ old

abbrev pub TakesSnapshot : Cluster → Option Location → Option Effect → Answer → Cluster → Type 0
TakesSnapshot old source None answer new = IsNotOut old answer new
TakesSnapshot old None (Some effect) answer new = IsNotOut old answer new
TakesSnapshot old (Some source) (Some effect) answer new =
    IsNotHeld old (state_at old source) answer new
    ⊎ IsTaken old (state_at old source) effect answer new
