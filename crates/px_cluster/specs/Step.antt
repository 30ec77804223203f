-- The machine of the whole cluster: what each event may answer and where it leads, and what a list of
-- events does.
use Rattle.std.specs.Prelude.{◌≡◌, ℕ, unwrap_or, List, [], ◌∷◌, Option, None, Some}
use Rattle.px_base.specs.declared.hash.Hash.{Hash}
use Rattle.px_ops.specs.declared.node_refusal.NodeRefusal.{NodeRefusal}
use Rattle.px_ops.specs.declared.op.Op.{Op}
use Rattle.px_ops.specs.declared.op.Op.TheVariants as op
use Rattle.px_ops.specs.declared.reply.Reply.TheVariants as reply
use Rattle.node_calls.specs.Calls.{AbortRefuses, Aborts, ApplyRefuses, Applies, CommitRefuses, Commits, CreateRefuses, Creates, PrepareRefuses, Prepares, RemoveRefuses, Removes}
use Rattle.node_calls.specs.ReplicaState.{ReplicaState}
use Rattle.node_calls.specs.declared.snapshot.Snapshot.{Snapshot}
use Rattle.px_cluster.specs.Acknowledged.{op_next, op_reply}
use Rattle.px_cluster.specs.Cluster.{Cluster}
use Rattle.px_cluster.specs.Core.{restarted}
use Rattle.px_cluster.specs.Deliveries.{Delivers, Fences, ReadsRefs, TakesSnapshot}
use Rattle.px_cluster.specs.Effects.{Effect, effect_of, hash_of, snapshot_of, source_of, location_of}
use Rattle.px_cluster.specs.Events.{Answer, Delivered, Event, Replied, Voted}
use Rattle.px_cluster.specs.Events as event
use Rattle.px_cluster.specs.Ids.{repo_id, storage_id}
use Rattle.px_cluster.specs.Ledger.{Purpose, answered, fence_answer}

-- ---- operations

pub record IsAsked (old : Cluster) (asked : Op) (answer : Answer) (new : Cluster) : Type 0 where
  pub replied : answer ≡ Replied (op_reply old asked)
  pub leads : new ≡ op_next old asked

-- the settling tells of the last lease that the node answered to this fence
abbrev pub settling : Cluster → ℕ → ℕ → ℕ → Op
settling cluster repo storage lease = op.Settle (repo_id repo) (storage_id storage) lease
    (unwrap_or (fence_answer (cluster.ledger repo storage lease)) None)

pub record IsRestart (old : Cluster) (answer : Answer) (new : Cluster) : Type 0 where
  pub replied : answer ≡ Replied reply.Done
  pub leads : new ≡ record old { core = restarted old.core }

-- ---- how a delivery is told and kept

abbrev pub tells_done : Unit {0} → Answer
tells_done result = Delivered

abbrev pub keeps_nothing : Purpose → Purpose
keeps_nothing purpose = purpose

abbrev pub lease_of : Option Effect → ℕ
lease_of None = 0
lease_of (Some effect) = effect.lease

-- the commit of the hash that was issued
abbrev pub CommitRefusesAs : ℕ → Option Hash → ReplicaState → NodeRefusal → Type 0
CommitRefusesAs lease None state why = ⊥
CommitRefusesAs lease (Some hash) state why = CommitRefuses lease hash state why

abbrev pub CommitsAs : ℕ → Option Hash → ReplicaState → Hash → ReplicaState → Type 0
CommitsAs lease None state vote then_ = ⊥
CommitsAs lease (Some hash) state vote then_ = Commits lease hash state vote then_

-- the apply of the snapshot that is kept
abbrev pub ApplyRefusesAs : ℕ → Option Snapshot → ReplicaState → NodeRefusal → Type 0
ApplyRefusesAs lease None state why = ⊥
ApplyRefusesAs lease (Some snapshot) state why = ApplyRefuses lease snapshot state why

abbrev pub AppliesAs : ℕ → Option Snapshot → ReplicaState → Unit {0} → ReplicaState → Type 0
AppliesAs lease None state result then_ = ⊥
AppliesAs lease (Some snapshot) state result then_ = Applies lease snapshot state result then_

-- ---- an event led from old to new, and was answered so

abbrev pub Step : Cluster → Event → Answer → Cluster → Type 0
Step old (event.Asks asked) answer new = IsAsked old asked answer new
Step old (event.Settled repo storage lease) answer new =
    IsAsked old (settling old repo storage lease) answer new
Step old (event.Make storage repo lease) answer new =
    Delivers (CreateRefuses lease) (Creates lease) tells_done answered old
    (effect_of old (event.Make storage repo lease)) answer new
Step old (event.Prepare tx storage push) answer new =
    let effect = effect_of old (event.Prepare tx storage push) in
    Delivers (PrepareRefuses (lease_of effect) push) (Prepares (lease_of effect) push)
    Voted keeps_nothing old effect answer new
Step old (event.Commit tx storage) answer new =
    let effect = effect_of old (event.Commit tx storage) in
    Delivers (CommitRefusesAs (lease_of effect) (hash_of old effect))
    (CommitsAs (lease_of effect) (hash_of old effect)) Voted answered old effect answer new
Step old (event.Abort tx storage) answer new =
    let effect = effect_of old (event.Abort tx storage) in
    Delivers (AbortRefuses (lease_of effect)) (Aborts (lease_of effect))
    tells_done keeps_nothing old effect answer new
Step old (event.Refs storage repo) answer new =
    ReadsRefs old (location_of old repo storage) answer new
Step old (event.TakeSnapshot job lease) answer new =
    let effect = effect_of old (event.TakeSnapshot job lease) in
    TakesSnapshot old (source_of old job effect) effect answer new
Step old (event.Apply job lease) answer new =
    let effect = effect_of old (event.Apply job lease) in
    Delivers (ApplyRefusesAs lease (snapshot_of old job effect))
    (AppliesAs lease (snapshot_of old job effect)) tells_done answered old effect answer new
Step old (event.Remove job lease) answer new =
    Delivers (RemoveRefuses lease) (Removes lease) tells_done answered old
    (effect_of old (event.Remove job lease)) answer new
Step old (event.Fence storage repo lease) answer new =
    Fences old (effect_of old (event.Fence storage repo lease)) answer new
Step old event.Restart answer new = IsRestart old answer new

-- a list of events was answered so, one after the other
abbrev pub Runs : Cluster → List Event → List Answer → Cluster → Type 0
Runs old [] [] new = new ≡ old
Runs old [] (answer ∷ answers) new = ⊥
Runs old (happened ∷ events) [] new = ⊥
Runs old (happened ∷ events) (answer ∷ answers) new =
    (then_ : Cluster) × Step old happened answer then_ × Runs then_ events answers new
