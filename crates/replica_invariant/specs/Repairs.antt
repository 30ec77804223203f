-- Fencing, settling and accepting: when each may happen (a record), what it leaves (a function),
-- and that it keeps the invariant (a statement).
use Rattle.std.specs.Prelude.{◌≡◌, ℕ, ◌+◌, ◌≤◌, ◌<◌, Option, Some, None, true, ◌⊎◌}
use Rattle.replica_invariant.specs.Booking.{Absent, At, Doubt}
use Rattle.replica_invariant.specs.Contents.{undecided}
use Rattle.replica_invariant.specs.Invariant.{Invariant}
use Rattle.replica_invariant.specs.Jobs.{DoesNotRun, draw_at}
use Rattle.replica_invariant.specs.Purposes.{Fencing}
use Rattle.replica_invariant.specs.State.{Entry, Job, ReadyPush, Replica, Shared, State, with_replica, with_value}

-- ---- a lease is drawn for fencing; a job that runs goes

pub record CanFence (state : State) (target : ℕ) (left : Option Job) : Type 0 where
  pub known : target < state.admitted
  pub turn : state.turn ≡ None
  pub booking : (state.replica target).booking ≡ Absent → ⊥
  pub job : (left ≡ None)
      ⊎ ((left ≡ (state.replica target).job) × DoesNotRun (state.replica target))

abbrev pub fence_drawn : Replica → ℕ → Option Job → Replica
fence_drawn replica lease left = record replica {
  kept = lease;
  purpose = with_value replica.purpose lease (Fencing None);
  job = left;
}

abbrev pub FenceBeginKeeps : Type 0
FenceBeginKeeps = (state : State) (target : ℕ) (left : Option Job) → Invariant state
    → CanFence state target left
    → Invariant
    (draw_at state target (fence_drawn (state.replica target) (state.shared.last + 1) left))

-- ---- a fence is delivered: the node's fence is raised to the lease, if it was below, and a push that
-- is ready is dropped, if the fence was raised

pub record CanAnswer (replica : Replica) (lease fence : ℕ) (ready : Option ReadyPush) : Type 0 where
  pub purpose : (last : Option (Option ℕ)) × (replica.purpose lease ≡ Fencing last)
  pub up : replica.node.fence ≤ fence
  pub reach : lease ≤ fence
  pub least : (fence ≡ lease) ⊎ (fence ≡ replica.node.fence)
  pub ready_ : (ready ≡ None) ⊎ ((ready ≡ replica.node.ready) × (fence ≡ replica.node.fence))

-- the node answers the last lease that it committed
abbrev pub fence_answered : Replica → ℕ → ℕ → Option ReadyPush → Replica
fence_answered replica lease fence ready = record replica {
  node = record replica.node { fence = fence; ready = ready };
  purpose = with_value replica.purpose lease (Fencing (Some replica.node.committed));
}

abbrev pub FenceAnswerKeeps : Type 0
FenceAnswerKeeps = (state : State) (target lease fence : ℕ) (ready : Option ReadyPush)
    → Invariant state
    → CanAnswer (state.replica target) lease fence ready
    → Invariant
    (with_replica state target (fence_answered (state.replica target) lease fence ready))

-- where the node does not hold the repository, or its answer is lost, no answer is kept
abbrev pub raised_to : Replica → ℕ → Option ReadyPush → Replica
raised_to replica fence ready = record replica {
  node = record replica.node { fence = fence; ready = ready };
}

abbrev pub FenceMissKeeps : Type 0
FenceMissKeeps = (state : State) (target lease fence : ℕ) (ready : Option ReadyPush)
    → Invariant state
    → CanAnswer (state.replica target) lease fence ready
    → Invariant (with_replica state target (raised_to (state.replica target) fence ready))

-- ---- settling

-- what the answer tells of a doubt: the generation that was due, where its lease was committed
-- last, and else the one before
abbrev pub Tells : Option ℕ → ℕ → ℕ → ℕ → ℕ → Type 0
Tells answer lease was due generation =
    ((answer ≡ Some lease) × (generation ≡ due)) ⊎ ((answer ≡ Some lease → ⊥) × (generation ≡ was))

-- in doubt, and the fence under the kept lease was answered
pub record CanSettle (replica : Replica) (answer : Option ℕ)
    (lease was due generation : ℕ) : Type 0 where
  pub purpose : replica.purpose replica.kept ≡ Fencing (Some answer)
  pub booking : replica.booking ≡ Doubt lease was due
  pub tells : Tells answer lease was due generation

abbrev pub booked_at : Replica → ℕ → Replica
booked_at replica generation = record replica { booking = At generation; floor = Some generation }

abbrev pub SettleKeeps : Type 0
SettleKeeps = (state : State) (storage : ℕ) (answer : Option ℕ) (lease was due generation : ℕ)
    → Invariant state
    → CanSettle (state.replica storage) answer lease was due generation
    → Invariant (with_replica state storage (booked_at (state.replica storage) generation))

-- ---- accepting

-- it is booked, the fence under the kept lease was answered, and no push has the turn
pub record CanAccept (state : State) (storage : ℕ) : Type 0 where
  pub turn : state.turn ≡ None
  pub booking : (state.replica storage).booking ≡ Absent → ⊥
  pub answer : Option ℕ
  pub purpose : (state.replica storage).purpose (state.replica storage).kept ≡ Fencing (Some answer)

-- the new entry is given: it is what the node holds
abbrev pub entry_of : Replica → Entry
entry_of replica = record { lease = None; hash = undecided; content = Some replica.node.refs }

abbrev pub accepted_replica : Replica → ℕ → Replica
accepted_replica replica generation = record replica {
  booking = At generation;
  floor = Some generation;
  level = Some generation;
  had = true;
}

abbrev pub accepted_log : Shared → Replica → Shared
accepted_log shared replica = record shared {
  newest = shared.newest + 1;
  entry = with_value shared.entry (shared.newest + 1) (entry_of replica);
}

abbrev pub accepted : State → ℕ → State
accepted state storage = record state {
  shared = accepted_log state.shared (state.replica storage);
  replica = with_value state.replica storage
      (accepted_replica (state.replica storage) (state.shared.newest + 1));
}

abbrev pub AcceptKeeps : Type 0
AcceptKeeps = (state : State) (storage : ℕ) → Invariant state → CanAccept state storage
    → Invariant (accepted state storage)
