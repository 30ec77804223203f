-- What is always so of one replica, clause by clause.
use Rattle.std.specs.Prelude.{◌≡◌, ℕ, ◌+◌, ◌≤◌, ◌<◌, Option, Some, None, Bool, true, false, ◌⊎◌}
use Rattle.replica_invariant.specs.Booking.{Booking, Absent, At, Doubt}
use Rattle.replica_invariant.specs.Contents.{Content, Vote, after, vote}
use Rattle.replica_invariant.specs.Purposes.{Purpose, Unused, Creation, Pushing, Updating, Deleting, Fencing, Effect, Create, Commit, Apply, Remove, effect, is_committed, is_creation}
use Rattle.replica_invariant.specs.State.{AtNode, Job, ReadyPush, Replica, Running, Shared}

-- ---- bookings

-- In doubt under a lease: the replica was booked at `was` last, `due` is the next generation and is
-- decided, by the push of that lease, and the lease was drawn for that push.
pub record DoubtBooking (shared : Shared) (replica : Replica) (under was due : ℕ) : Type 0 where
  pub floor : replica.floor ≡ Some was
  pub next : due ≡ was + 1
  pub newest : due ≤ shared.newest
  pub lease : (shared.entry due).lease ≡ Some under
  pub purpose : (commit : Option Vote) × (answered : Bool)
      × (replica.purpose under ≡ Pushing was commit answered)

-- No generation that is booked, was booked or is to be applied is above newest, and the floor is
-- the generation that is booked.
pub record BookingClause (shared : Shared) (replica : Replica) : Type 0 where
  pub floor : (held : ℕ) → replica.floor ≡ Some held → held ≤ shared.newest
  pub at : (held : ℕ) → replica.booking ≡ At held → replica.floor ≡ Some held
  pub doubt : (lease was due : ℕ) → replica.booking ≡ Doubt lease was due
      → DoubtBooking shared replica lease was due
  pub applies : (lease generation : ℕ) → effect (replica.purpose lease) ≡ Some (Apply generation)
      → generation ≤ shared.newest

-- ---- leases

-- The kept lease was drawn, and no lease above it was drawn for the replica, nor lease 0. The fence
-- of a replica that ever had a level is at most one above the kept lease; what was committed is
-- below the fence.
pub record LeaseClause (shared : Shared) (replica : Replica) : Type 0 where
  pub kept : replica.kept ≤ shared.last
  pub zero : replica.purpose 0 ≡ Unused
  pub drawn : (lease : ℕ) → replica.kept < lease → replica.purpose lease ≡ Unused
  pub fence : replica.had ≡ true → replica.node.fence ≤ replica.kept + 1
  pub committed : (lease : ℕ) → replica.node.committed ≡ Some lease → lease < replica.node.fence

-- ---- levels

-- At a level the node holds the content of that generation, which is decided and is not below the
-- floor.
pub record HasLevel (shared : Shared) (replica : Replica) (level : ℕ) : Type 0 where
  pub held : replica.node.held ≡ true
  pub had : replica.had ≡ true
  pub newest : level ≤ shared.newest
  pub floor : (held : ℕ) → replica.floor ≡ Some held → held ≤ level
  pub content : (shared.entry level).content ≡ Some replica.node.refs

-- What is booked has a level. What is held without one is from before the record, and was never
-- booked.
pub record LevelClause (shared : Shared) (replica : Replica) : Type 0 where
  pub bare : replica.level ≡ None → replica.booking ≡ Absent
  pub level : (level : ℕ) → replica.level ≡ Some level → HasLevel shared replica level
  pub early : replica.node.held ≡ true → replica.level ≡ None → replica.floor ≡ None

-- ---- live effects: those whose lease is not below the fence. When each of them may be live

pub record FitsCommit (replica : Replica) (lease begun : ℕ) : Type 0 where
  pub level : replica.level ≡ Some begun
  pub floor : replica.floor ≡ Some begun
  pub booking : (replica.booking ≡ Absent) ⊎ (replica.booking ≡ Doubt lease begun (begun + 1))

pub record FitsApply (replica : Replica) (generation : ℕ) : Type 0 where
  pub at : (held : ℕ) → replica.booking ≡ At held → held < generation
  pub doubt : (lease was due : ℕ) → replica.booking ≡ Doubt lease was due → due ≤ generation
  pub floor : (held : ℕ) → replica.floor ≡ Some held → held ≤ generation

pub record FitsRemove (replica : Replica) : Type 0 where
  pub booking : replica.booking ≡ Absent
  pub floor : replica.floor ≡ None → ⊥

-- a create only where the replica was never booked
abbrev pub FitsEffect : Replica → ℕ → Effect → Type 0
FitsEffect replica lease Create = replica.floor ≡ None
FitsEffect replica lease (Commit begun hash) = FitsCommit replica lease begun
FitsEffect replica lease (Apply generation) = FitsApply replica generation
FitsEffect replica lease Remove = FitsRemove replica

-- no effect is live under a lease below this one
abbrev pub QuietBelow : Replica → ℕ → Type 0
QuietBelow replica under = (lease : ℕ) → replica.node.fence ≤ lease → lease < under
    → effect (replica.purpose lease) ≡ None

-- Each live effect fits. None is older than the push of a doubt, nor than a commit that is live.
pub record LiveClause (replica : Replica) : Type 0 where
  pub fits : (lease : ℕ) (issued : Effect) → replica.node.fence ≤ lease
      → effect (replica.purpose lease) ≡ Some issued → FitsEffect replica lease issued
  pub doubt : (lease was due : ℕ) → replica.booking ≡ Doubt lease was due → QuietBelow replica lease
  pub commit : (lease begun : ℕ) (hash : Vote) → replica.node.fence ≤ lease
      → effect (replica.purpose lease) ≡ Some (Commit begun hash) → QuietBelow replica lease

-- ---- commits

-- A commit is issued for the hash that its push decided.
pub record IsIssued (shared : Shared) (under begun : ℕ) (decided : Vote) : Type 0 where
  pub newest : begun < shared.newest
  pub lease : (shared.entry (begun + 1)).lease ≡ Some under
  pub hash : (shared.entry (begun + 1)).hash ≡ decided

-- A commit that the node answered was issued and is done.
pub record IsAnswered (replica : Replica) (lease : ℕ) : Type 0 where
  pub issued : effect (replica.purpose lease) ≡ None → ⊥
  pub fence : lease < replica.node.fence
  pub doubt : (was due : ℕ) → replica.booking ≡ Doubt lease was due
      → replica.node.committed ≡ Some lease

pub record CommitClause (shared : Shared) (replica : Replica) : Type 0 where
  pub begun : (lease begun : ℕ) (commit : Option Vote) (answered : Bool)
      → replica.purpose lease ≡ Pushing begun commit answered → begun ≤ shared.newest
  pub issued : (lease begun : ℕ) (hash : Vote)
      → effect (replica.purpose lease) ≡ Some (Commit begun hash) → IsIssued shared lease begun hash
  pub answered : (lease : ℕ) → is_committed (replica.purpose lease) ≡ true
      → IsAnswered replica lease

-- ---- doubts

-- As long as the commit of a doubt may come, the replica is at the generation before; once its
-- lease is the last that was committed, it is at the one that was due or a later one.
pub record DoubtClause (replica : Replica) : Type 0 where
  pub early : (lease was due : ℕ) → replica.booking ≡ Doubt lease was due
      → replica.node.fence ≤ lease → replica.level ≡ Some was
  pub late : (lease was due : ℕ) → replica.booking ≡ Doubt lease was due
      → replica.node.committed ≡ Some lease → (level : ℕ) × (replica.level ≡ Some level)
      × (due ≤ level)

-- ---- ready pushes

-- A push that is ready leads to what its updates make of what the node holds.
pub record ReadyClause (shared : Shared) (node : AtNode) (push : ReadyPush) : Type 0 where
  pub held : node.held ≡ true
  pub fence : node.fence ≡ push.lease
  pub content : push.content ≡ after node.refs push.updates
  pub text : push.updates ≡ shared.text push.lease (vote push.updates)

-- ---- creations

-- A replica that the node answered to have made is empty as long as no later lease was drawn for
-- it.
pub record IsMade (replica : Replica) (lease : ℕ) : Type 0 where
  pub fence : lease < replica.node.fence
  pub level : replica.kept ≡ lease → replica.level ≡ Some 0

-- Up to the lease of the creation leases were drawn for creations alone, and above it for none.
pub record CreationClause (shared : Shared) (replica : Replica) : Type 0 where
  pub creating : (lease : ℕ) → is_creation (replica.purpose lease) ≡ true → lease ≤ shared.creation
  pub early : (lease : ℕ) → lease ≤ shared.creation → is_creation (replica.purpose lease) ≡ false
      → replica.purpose lease ≡ Unused
  pub made : (lease : ℕ) → replica.purpose lease ≡ Creation true → IsMade replica lease
  pub fresh : 0 < shared.creation → replica.kept ≡ shared.creation → replica.booking ≡ Absent
      → replica.floor ≡ None

-- ---- copies

-- A snapshot is the content of a generation that is not below the one that the update brings.
pub record IsSnapshot (shared : Shared) (generation : ℕ) (refs : Content) (level : ℕ) : Type 0 where
  pub low : generation ≤ level
  pub newest : level ≤ shared.newest
  pub content : (shared.entry level).content ≡ Some refs

-- An update that the node answered is done.
pub record IsApplied (fence : ℕ) (level : Option ℕ) (lease generation : ℕ) : Type 0 where
  pub above : lease < fence
  pub reached : (now : ℕ) × (level ≡ Some now) × (generation ≤ now)

pub record CopyClause (shared : Shared) (purpose : ℕ → Purpose) (kept fence : ℕ)
    (level : Option ℕ) : Type 0 where
  pub snapshot : (lease source generation : ℕ) (refs : Content) (read : ℕ) (answered : Bool)
      → purpose lease ≡ Updating source generation (Some (refs, read)) answered
      → IsSnapshot shared generation refs read
  pub answered : (lease source generation : ℕ) (snapshot : Option (Content × ℕ))
      → purpose lease ≡ Updating source generation snapshot true → kept ≡ lease
      → IsApplied fence level lease generation

-- ---- jobs

-- The lease of a running job was drawn for it.
pub record IsDrawnFor (job : Job) (purpose : Purpose) : Type 0 where
  pub update : job.update ≡ true → (source : ℕ) × (kept : Option (Content × ℕ)) × (answered : Bool)
      × (purpose ≡ Updating source job.generation kept answered)
  pub delete : job.update ≡ false → (answered : Bool) × (purpose ≡ Deleting answered)

-- A running job has the kept lease. An update brings the replica on, and the replica of a delete is
-- booked absent.
pub record IsRunning (kept : ℕ) (drawn : Purpose) (booking : Booking) (floor : Option ℕ) (job : Job)
    (under : ℕ) : Type 0 where
  pub lease : kept ≡ under
  pub purpose : IsDrawnFor job drawn
  pub low : job.update ≡ true → (held : ℕ) → floor ≡ Some held → held ≤ job.generation
  pub at : job.update ≡ true → booking ≡ At job.generation → ⊥
  pub doubt : job.update ≡ true → (lease was due : ℕ) → booking ≡ Doubt lease was due
      → due ≤ job.generation
  pub absent : job.update ≡ false → booking ≡ Absent

-- A job is for a generation that is decided, and a delete for a replica that was booked.
pub record JobClause (newest kept : ℕ) (purpose : ℕ → Purpose) (booking : Booking)
    (floor : Option ℕ) (job : Job) : Type 0 where
  pub generation : job.generation ≤ newest
  pub deleting : job.update ≡ false → floor ≡ None → ⊥
  pub running : (lease : ℕ) → job.state ≡ Running lease
      → IsRunning kept (purpose lease) booking floor job lease

-- ---- fences

-- A fence that was answered is raised, and as long as its lease is the kept one, nothing was
-- committed since.
pub record FenceClause (purpose : ℕ → Purpose) (kept fence : ℕ)
    (committed : Option ℕ) : Type 0 where
  pub reached : (lease : ℕ) (last : Option ℕ) → purpose lease ≡ Fencing (Some last) → lease ≤ fence
  pub same : (lease : ℕ) (last : Option ℕ) → purpose lease ≡ Fencing (Some last) → kept ≡ lease
      → committed ≡ last

-- ---- all of them

pub record ReplicaClauses (shared : Shared) (replica : Replica) : Type 0 where
  pub book : BookingClause shared replica
  pub lease : LeaseClause shared replica
  pub node : LevelClause shared replica
  pub live : LiveClause replica
  pub commit : CommitClause shared replica
  pub doubt : DoubtClause replica
  pub ready : (push : ReadyPush) → replica.node.ready ≡ Some push
      → ReadyClause shared replica.node push
  pub create : CreationClause shared replica
  pub copy : CopyClause shared replica.purpose replica.kept replica.node.fence replica.level
  pub job : (job : Job) → replica.job ≡ Some job
      → JobClause shared.newest replica.kept replica.purpose replica.booking replica.floor job
  pub fencing : FenceClause replica.purpose replica.kept replica.node.fence replica.node.committed
