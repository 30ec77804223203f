-- The events by which replicas come on record: when each may happen (a record), what it leaves (a
-- function), and that it keeps the invariant (a statement).
use Rattle.std.specs.Prelude.{◌≡◌, ℕ, ◌+◌, ◌≤◌, ◌<◌, Some, None, Bool, true, false, if◌then◌else◌}
use Rattle.replica_invariant.specs.Booking.{Absent, At}
use Rattle.replica_invariant.specs.Contents.{Updates, Vote, after, empty, undecided, vote}
use Rattle.replica_invariant.specs.Invariant.{Invariant, IsUntouched}
use Rattle.replica_invariant.specs.Purposes.{Purpose, Unused, Creation}
use Rattle.replica_invariant.specs.State.{AtNode, ReadyPush, Replica, Shared, State, with_replica, with_value}

-- a lease is drawn for the replica
abbrev pub drawn : Replica → ℕ → Purpose → Replica
drawn replica lease purpose = record replica {
  kept = lease;
  purpose = with_value replica.purpose lease purpose;
}

-- ---- the creation, on some storages, where every replica is absent

pub record CanCreate (state : State) (chosen : ℕ → Bool) : Type 0 where
  pub absent : (storage : ℕ) → (state.replica storage).booking ≡ Absent
  pub some : (storage : ℕ) × (chosen storage ≡ true)
  pub known : (storage : ℕ) → state.admitted ≤ storage → chosen storage ≡ false

abbrev pub created : State → (ℕ → Bool) → State
created state chosen = record state {
  shared = record state.shared {
    last = state.shared.last + 1;
    creation = state.shared.last + 1;
  };
  assigned = chosen;
  replica = λ storage.
      if chosen storage
      then drawn (state.replica storage) (state.shared.last + 1) (Creation false)
      else state.replica storage;
}

-- it was on record before
abbrev pub CreateKeeps : Type 0
CreateKeeps = (state : State) (chosen : ℕ → Bool) → Invariant state → CanCreate state chosen
    → Invariant (created state chosen)

-- What a node has of a repository that is not on record is what calls made of an empty one.
pub record IsFromBefore (node : AtNode) (text : ℕ → Vote → Updates) : Type 0 where
  pub committed : (lease : ℕ) → node.committed ≡ Some lease → lease < node.fence
  pub ready : (push : ReadyPush) → node.ready ≡ Some push → (node.held ≡ true)
      × (node.fence ≡ push.lease) × (push.content ≡ after node.refs push.updates)
      × (push.updates ≡ text push.lease (vote push.updates))

-- a repository that comes on record, over what the nodes have of it
abbrev pub opening : (ℕ → AtNode) → (ℕ → Vote → Updates) → ℕ → State
opening node text admitted = record {
  shared = record {
    newest = 0;
    last = 0;
    creation = 0;
    entry = λ generation. record { lease = None; hash = undecided; content = Some empty };
    text = text;
  };
  admitted = admitted;
  assigned = λ storage. false;
  replica = λ storage. record {
    kept = 0;
    booking = Absent;
    floor = None;
    node = node storage;
    level = None;
    had = false;
    purpose = λ lease. Unused;
    job = None;
  };
  turn = None;
}

abbrev pub FirstCreateKeeps : Type 0
FirstCreateKeeps =
    (node : ℕ → AtNode) (text : ℕ → Vote → Updates) (admitted : ℕ) (chosen : ℕ → Bool)
    → ((storage : ℕ) → IsFromBefore (node storage) text)
    → CanCreate (opening node text admitted) chosen
    → Invariant (created (opening node text admitted) chosen)

-- ---- a create is delivered; `answered` says whether its answer is kept

pub record CanMake (replica : Replica) (lease : ℕ) (before : Bool) : Type 0 where
  pub purpose : replica.purpose lease ≡ Creation before
  pub live : replica.node.fence ≤ lease
  pub bare : replica.node.held ≡ true → replica.node.refs ≡ empty

abbrev pub made : Replica → ℕ → Bool → Replica
made replica lease answered = record replica {
  node = record {
    held = true;
    refs = empty;
    fence = lease + 1;
    committed = replica.node.committed;
    ready = None;
  };
  level = Some 0;
  had = true;
  purpose = with_value replica.purpose lease (Creation answered);
}

abbrev pub MakeKeeps : Type 0
MakeKeeps = (state : State) (storage lease : ℕ) (before answered : Bool) → Invariant state
    → CanMake (state.replica storage) lease before → (before ≡ true → answered ≡ true)
    → Invariant (with_replica state storage (made (state.replica storage) lease answered))

-- ---- a replica that was made is enrolled

pub record CanEnrol (shared : Shared) (replica : Replica) : Type 0 where
  pub kept : replica.kept ≡ shared.creation
  pub made : replica.purpose shared.creation ≡ Creation true
  pub booking : replica.booking ≡ Absent

abbrev pub enrolled : Replica → Replica
enrolled replica = record replica { booking = At 0; floor = Some 0 }

abbrev pub EnrolKeeps : Type 0
EnrolKeeps = (state : State) (storage : ℕ) → Invariant state
    → CanEnrol state.shared (state.replica storage)
    → Invariant (with_replica state storage (enrolled (state.replica storage)))

-- ---- a storage is admitted; the factor assigns other storages

abbrev pub AdmitKeeps : Type 0
AdmitKeeps = (state : State) → Invariant state
    → Invariant (record state { admitted = state.admitted + 1 })

abbrev pub AssignKeeps : Type 0
AssignKeeps = (state : State) (chosen : ℕ → Bool) → Invariant state
    → ((storage : ℕ) × (chosen storage ≡ true))
    → ((storage : ℕ) → state.admitted ≤ storage → chosen storage ≡ false)
    → Invariant (record state { assigned = chosen })

-- ---- a node appears where nothing was ever recorded of the replica, as that of a storage that is
-- admitted: it may hold something at that path

abbrev pub with_node : Replica → AtNode → Replica
with_node replica node = record replica { node = node }

abbrev pub AppearKeeps : Type 0
AppearKeeps = (state : State) (storage : ℕ) (node : AtNode) → Invariant state
    → IsUntouched (state.replica storage) → IsFromBefore node state.shared.text
    → Invariant (with_replica state storage (with_node (state.replica storage) node))
