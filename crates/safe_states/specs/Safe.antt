-- What a user relies on in every state of a repository.
use Rattle.std.specs.Prelude.{◌≡◌, ◌⊎◌, ◌≤◌, ◌<◌, ◌+◌, ℕ, Bool, true, Option, None, Some}
use Rattle.replica_invariant.specs.Booking.{Absent, At, Doubt}
use Rattle.replica_invariant.specs.Contents.{Content, Vote}
use Rattle.replica_invariant.specs.Invariant.{Invariant}
use Rattle.replica_invariant.specs.Purposes.{Apply, Commit, Effect, Pushing, Remove, Updating, effect}
use Rattle.replica_invariant.specs.State.{Job, OpenPush, ReadyPush, Replica, Running, Shared, State}
use Rattle.safe_states.specs.Happens.{IsReached}

-- ---- words

-- the effect was issued for the replica under the lease
abbrev pub IsIssued : Replica → ℕ → Effect → Type 0
IsIssued replica lease issued = effect (replica.purpose lease) ≡ Some issued

-- it is live: its lease is not below the fence of the node, which would do it
abbrev pub IsLive : Replica → ℕ → Effect → Type 0
IsLive replica lease issued = (replica.node.fence ≤ lease) × IsIssued replica lease issued

-- the node holds exactly the content of the generation
pub record Holds (shared : Shared) (replica : Replica) (generation : ℕ) : Type 0 where
  pub held : replica.node.held ≡ true
  pub exact : (shared.entry generation).content ≡ Some replica.node.refs

-- ---- one replica

module _ (shared : Shared) (replica : Replica) where
  -- no generation of a booking, an effect or a job is above newest; a booking never says less than
  -- one before it, also over a time of absence
  pub record AreGenerations : Type 0 where
    pub floor : (held : ℕ) → replica.floor ≡ Some held → held ≤ shared.newest
    pub at : (held : ℕ) → replica.booking ≡ At held → replica.floor ≡ Some held
    pub doubt : (lease was due : ℕ) → replica.booking ≡ Doubt lease was due
        → (replica.floor ≡ Some was) × (due ≡ was + 1) × (due ≤ shared.newest)
    pub commits : (lease begun : ℕ) (hash : Vote) → IsIssued replica lease (Commit begun hash)
        → begun + 1 ≤ shared.newest
    pub applies : (lease generation : ℕ) → IsIssued replica lease (Apply generation)
        → generation ≤ shared.newest
    pub jobs : (job : Job) → replica.job ≡ Some job → job.generation ≤ shared.newest

  -- each lease that was drawn for the replica is at most the kept one, which the fence may pass by
  -- one
  pub record AreLeases : Type 0 where
    pub kept : replica.kept ≤ shared.last
    pub drawn : (lease : ℕ) (issued : Effect) → IsIssued replica lease issued → lease ≤ replica.kept
    pub fence : replica.had ≡ true → replica.node.fence ≤ replica.kept + 1

  -- what is booked has a level, and holds exactly the content of it, which is not below the floor
  pub record AreContents : Type 0 where
    pub there : (replica.booking ≡ Absent → ⊥) → (level : ℕ) × (replica.level ≡ Some level)
    pub level : (level : ℕ) → replica.level ≡ Some level
        → (level ≤ shared.newest) × Holds shared replica level
    pub floor : (level held : ℕ) → replica.level ≡ Some level → replica.floor ≡ Some held
        → held ≤ level
    pub early : replica.node.held ≡ true → replica.level ≡ None
        → (replica.booking ≡ Absent) × (replica.floor ≡ None)

  -- what may still be done at the node never takes it below what is booked, nor below what was
  pub record AreEffects : Type 0 where
    pub at : (held lease : ℕ) (issued : Effect) → replica.booking ≡ At held
        → IsLive replica lease issued → (generation : ℕ) × (issued ≡ Apply generation)
        × (held < generation)
    pub doubt : (under was due lease : ℕ) (issued : Effect) → replica.booking ≡ Doubt under was due
        → IsLive replica lease issued
        → ((hash : Vote) × (issued ≡ Commit was hash) × (lease ≡ under))
        ⊎ ((generation : ℕ) × (issued ≡ Apply generation) × (due ≤ generation))
    pub absent : (held lease : ℕ) (issued : Effect) → replica.booking ≡ Absent
        → replica.floor ≡ Some held → IsLive replica lease issued
        → (issued ≡ Remove)
        ⊎ (((begun : ℕ) × (hash : Vote) × (issued ≡ Commit begun hash) × (held < begun + 1))
        ⊎ ((generation : ℕ) × (issued ≡ Apply generation) × (held ≤ generation)))

  -- a running job has the kept lease; a snapshot is the content of a generation that is not below
  -- the one that the update brings
  pub record AreJobs : Type 0 where
    pub lease : (job : Job) (lease : ℕ) → replica.job ≡ Some job → job.state ≡ Running lease
        → lease ≡ replica.kept
    pub snapshot : (lease source generation : ℕ) (refs : Content) (level : ℕ) (answered : Bool)
        → replica.purpose lease ≡ Updating source generation (Some (refs, level)) answered
        → (generation ≤ level) × (level ≤ shared.newest)
        × ((shared.entry level).content ≡ Some refs)

  -- a push is ready at the fence alone; what becomes of a doubt is told by the fence and by the
  -- lease that was committed last
  pub record AreDoubts : Type 0 where
    pub ready : (push : ReadyPush) → replica.node.ready ≡ Some push
        → replica.node.fence ≡ push.lease
    pub early : (lease was due : ℕ) → replica.booking ≡ Doubt lease was due
        → replica.node.fence ≤ lease → replica.level ≡ Some was
    pub late : (lease was due : ℕ) → replica.booking ≡ Doubt lease was due
        → replica.node.committed ≡ Some lease
        → (level : ℕ) × (replica.level ≡ Some level) × (due ≤ level)

  pub record IsSafeReplica : Type 0 where
    pub generations : AreGenerations
    pub leases : AreLeases
    pub contents : AreContents
    pub effects : AreEffects
    pub jobs : AreJobs
    pub doubts : AreDoubts
    -- booked newest, it holds exactly the newest content, and nothing may still be done to it
    pub newest : replica.booking ≡ At shared.newest → Holds shared replica shared.newest
    pub still : (lease : ℕ) (issued : Effect) → replica.booking ≡ At shared.newest
        → IsLive replica lease issued → ⊥

-- ---- the push that has the turn

-- a member before it is told to commit
pub record IsBefore (push : OpenPush) (replica : Replica) : Type 0 where
  pub booking : replica.booking ≡ At push.begun
  pub level : replica.level ≡ Some push.begun
  pub quiet : (lease : ℕ) (issued : Effect) → IsLive replica lease issued → ⊥

-- one that is told, and did not confirm yet
pub record IsInDoubt (push : OpenPush) (replica : Replica) : Type 0 where
  pub booking : replica.booking ≡ Doubt push.lease push.begun (push.begun + 1)
  pub quiet : (lease : ℕ) (issued : Effect) → IsLive replica lease issued
      → (hash : Vote) × (issued ≡ Commit push.begun hash) × (lease ≡ push.lease)

pub record IsSafeMember (push : OpenPush) (replica : Replica) : Type 0 where
  pub kept : replica.kept ≡ push.lease
  pub is : IsBefore push replica
      ⊎ (IsInDoubt push replica ⊎ (replica.booking ≡ At (push.begun + 1)))

pub record IsSafePush (shared : Shared) (replica : ℕ → Replica) (push : OpenPush) : Type 0 where
  pub members : (storage : ℕ) → push.members storage ≡ true → IsSafeMember push (replica storage)
  pub before : push.decided ≡ None → shared.newest ≡ push.begun
  pub after : (hash : Vote) → push.decided ≡ Some hash → shared.newest ≡ push.begun + 1
  -- only a member is told to commit, and only the decided hash
  pub told : (storage begun : ℕ) (hash : Vote) (answered : Bool)
      → (replica storage).purpose push.lease ≡ Pushing begun (Some hash) answered
      → (push.members storage ≡ true) × (push.decided ≡ Some hash)
  -- from the decision to the first member that confirms, none is booked newest
  pub waits : (storage : ℕ) (hash : Vote) → push.decided ≡ Some hash
      → (replica storage).booking ≡ At shared.newest
      → (member : ℕ) × (push.members member ≡ true) × ((replica member).booking ≡ At shared.newest)
      × (push.cast member ≡ true)

-- ---- the repository

pub record IsSafe (state : State) : Type 0 where
  pub replica : (storage : ℕ) → IsSafeReplica state.shared (state.replica storage)
  -- a source was booked at the generation that its update brings
  pub source : (target lease source generation : ℕ) (kept : Option (Content × ℕ)) (answered : Bool)
      → (state.replica target).purpose lease ≡ Updating source generation kept answered
      → (held : ℕ) × ((state.replica source).floor ≡ Some held) × (generation ≤ held)
  pub push : (push : OpenPush) → state.turn ≡ Some push → IsSafePush state.shared state.replica push

abbrev pub InvariantIsSafe : Type 0
InvariantIsSafe = (state : State) → Invariant state → IsSafe state

abbrev pub ReachedIsSafe : Type 0
ReachedIsSafe = (state : State) → IsReached state → IsSafe state
