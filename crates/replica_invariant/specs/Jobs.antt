-- The events of jobs: when each may happen (a record), what it leaves (a function), and that it
-- keeps the invariant (a statement).
use Rattle.std.specs.Prelude.{◌≡◌, ℕ, ◌+◌, ◌≤◌, ◌<◌, Option, Some, None, Bool, true, false}
use Rattle.replica_invariant.specs.Booking.{Booking, Absent, At}
use Rattle.replica_invariant.specs.Contents.{Content, empty}
use Rattle.replica_invariant.specs.Invariant.{Invariant}
use Rattle.replica_invariant.specs.Purposes.{Purpose, Updating, Deleting}
use Rattle.replica_invariant.specs.Pushes.{issued}
use Rattle.replica_invariant.specs.State.{Job, JobState, OpenPush, Replica, Running, State, Waiting, with_replica, with_value}

abbrev pub with_job : Replica → Option Job → Replica
with_job replica job = record replica { job = job }

-- the job of the replica does not run
abbrev pub DoesNotRun : Replica → Type 0
DoesNotRun replica = (job : Job) (lease : ℕ) → replica.job ≡ Some job → job.state ≡ Running lease
    → ⊥

-- the storage is no member of the push that has the turn
abbrev pub IsNoMember : State → ℕ → Type 0
IsNoMember state storage = (push : OpenPush) → state.turn ≡ Some push → push.members storage ≡ false

-- ---- a job is planned

pub record CanPlan (state : State) (target : ℕ) (job : Job) : Type 0 where
  pub known : target < state.admitted
  pub some : (storage : ℕ) × ((state.replica storage).booking ≡ Absent → ⊥)
  pub waits : job.state ≡ Waiting
  pub generation : job.generation ≡ state.shared.newest
  pub target_ : job.update ≡ false → (state.replica target).booking ≡ Absent → ⊥

abbrev pub PlanKeeps : Type 0
PlanKeeps = (state : State) (target : ℕ) (job : Job) → Invariant state → CanPlan state target job
    → Invariant (with_replica state target (with_job (state.replica target) (Some job)))

-- ---- it is dropped, or a delete ended well

abbrev pub DropKeeps : Type 0
DropKeeps = (state : State) (target : ℕ) → Invariant state
    → Invariant (with_replica state target (with_job (state.replica target) None))

-- ---- it ended badly

abbrev pub FailKeeps : Type 0
FailKeeps = (state : State) (target : ℕ) (job : Job) (then_ : JobState) → Invariant state
    → (state.replica target).job ≡ Some job
    → ((lease : ℕ) → then_ ≡ Running lease → ⊥)
    → Invariant
    (with_replica state target
    (with_job (state.replica target) (Some (record job { state = then_ }))))

-- ---- a worker takes it: a lease is drawn for the target

abbrev pub taken : Replica → ℕ → Purpose → Bool → ℕ → Booking → Replica
taken replica lease purpose update generation booking = record replica {
  kept = lease;
  purpose = with_value replica.purpose lease purpose;
  booking = booking;
  job = Some (record { update = update; generation = generation; state = Running lease });
}

-- the next lease is drawn for the replica on one storage
abbrev pub draw_at : State → ℕ → Replica → State
draw_at state storage replica = record state {
  shared = record state.shared { last = state.shared.last + 1 };
  replica = with_value state.replica storage replica;
}

-- an update from a source that is at newest, where the target is not
pub record CanTakeUpdate (state : State) (target source : ℕ) : Type 0 where
  pub source_ : (state.replica source).booking ≡ At state.shared.newest
  pub known : target < state.admitted
  pub behind : (state.replica target).booking ≡ At state.shared.newest → ⊥
  pub outside : IsNoMember state target
  pub waits : DoesNotRun (state.replica target)

abbrev pub update_taken : State → ℕ → ℕ → State
update_taken state target source = draw_at state target (taken
    (state.replica target)
    (state.shared.last + 1)
    (Updating source state.shared.newest None false)
    true
    state.shared.newest
    (state.replica target).booking)

abbrev pub TakeUpdateKeeps : Type 0
TakeUpdateKeeps = (state : State) (target source : ℕ) → Invariant state
    → CanTakeUpdate state target source → Invariant (update_taken state target source)

-- a delete of a replica that is not assigned, once every assigned one is at newest
pub record CanTakeDelete (state : State) (target : ℕ) : Type 0 where
  pub known : target < state.admitted
  pub current : (storage : ℕ) → state.assigned storage ≡ true
      → (state.replica storage).booking ≡ At state.shared.newest
  pub unassigned : state.assigned target ≡ false
  pub outside : IsNoMember state target
  pub job : (generation : ℕ)
      × ((state.replica target).job ≡ Some
      (record { update = false; generation = generation; state = Waiting }))

abbrev pub delete_taken : State → ℕ → State
delete_taken state target = draw_at state target
    (taken (state.replica target) (state.shared.last + 1)
    (Deleting false) false state.shared.newest Absent)

abbrev pub TakeDeleteKeeps : Type 0
TakeDeleteKeeps = (state : State) (target : ℕ) → Invariant state → CanTakeDelete state target
    → Invariant (delete_taken state target)

-- ---- a snapshot is read at the source, and kept

pub record CanRead (state : State) (target lease source generation level : ℕ)
    (before : Option (Content × ℕ)) (answered : Bool) : Type 0 where
  pub purpose : (state.replica target).purpose lease ≡ Updating source generation before answered
  pub held : (state.replica source).node.held ≡ true
  pub level_ : (state.replica source).level ≡ Some level

abbrev pub SnapshotKeeps : Type 0
SnapshotKeeps =
    (state : State) (target lease source generation level : ℕ) (before : Option (Content × ℕ))
    (answered : Bool) → Invariant state
    → CanRead state target lease source generation level before answered
    → Invariant
    (with_replica state target
    (issued (state.replica target) lease
    (Updating source generation (Some ((state.replica source).node.refs, level)) answered)))

-- ---- an apply is delivered; `answered` says whether its answer is kept

pub record CanApply (replica : Replica) (lease source generation level : ℕ) (refs : Content)
    (before : Bool) : Type 0 where
  pub purpose : replica.purpose lease ≡ Updating source generation (Some (refs, level)) before
  pub live : replica.node.fence ≤ lease

abbrev pub applied : Replica → ℕ → ℕ → ℕ → Content → ℕ → Bool → Replica
applied replica lease source generation refs level answered = record replica {
  node = record {
    held = true;
    refs = refs;
    fence = lease + 1;
    committed = replica.node.committed;
    ready = None;
  };
  level = Some level;
  had = true;
  purpose =
      with_value replica.purpose lease (Updating source generation (Some (refs, level)) answered);
}

abbrev pub ApplyKeeps : Type 0
ApplyKeeps =
    (state : State) (target lease source generation level : ℕ) (refs : Content)
    (before answered : Bool) → Invariant state
    → CanApply (state.replica target) lease source generation level refs before
    → Invariant
    (with_replica state target
    (applied (state.replica target) lease source generation refs level answered))

-- ---- a remove is delivered; `answered` says whether its answer is kept

pub record CanRemove (replica : Replica) (lease : ℕ) (before : Bool) : Type 0 where
  pub purpose : replica.purpose lease ≡ Deleting before
  pub live : replica.node.fence ≤ lease

abbrev pub removed : Replica → ℕ → Bool → Replica
removed replica lease answered = record replica {
  node = record {
    held = false;
    refs = empty;
    fence = lease + 1;
    committed = replica.node.committed;
    ready = None;
  };
  level = None;
  purpose = with_value replica.purpose lease (Deleting answered);
}

abbrev pub RemoveKeeps : Type 0
RemoveKeeps = (state : State) (target lease : ℕ) (before answered : Bool) → Invariant state
    → CanRemove (state.replica target) lease before
    → Invariant (with_replica state target (removed (state.replica target) lease answered))

-- ---- an update ended well

pub record CanEndUpdate (replica : Replica) (job : Job) (lease source : ℕ)
    (kept : Option (Content × ℕ)) : Type 0 where
  pub job_ : replica.job ≡ Some job
  pub update : job.update ≡ true
  pub running : job.state ≡ Running lease
  pub purpose : replica.purpose lease ≡ Updating source job.generation kept true

abbrev pub ended : Replica → ℕ → Replica
ended replica generation = record replica {
  booking = At generation;
  floor = Some generation;
  job = None;
}

abbrev pub EndUpdateKeeps : Type 0
EndUpdateKeeps =
    (state : State) (target : ℕ) (job : Job) (lease source : ℕ) (kept : Option (Content × ℕ))
    → Invariant state
    → CanEndUpdate (state.replica target) job lease source kept
    → Invariant (with_replica state target (ended (state.replica target) job.generation))
