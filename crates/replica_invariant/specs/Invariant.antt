-- What is always so of one repository: the clauses of each replica, and what joins replicas.
use Rattle.std.specs.Prelude.{◌≡◌, ℕ, ◌+◌, ◌≤◌, ◌<◌, Option, Some, None, Bool, true, false, ◌⊎◌}
use Rattle.replica_invariant.specs.Booking.{Absent, At, Doubt}
use Rattle.replica_invariant.specs.Contents.{Content, Vote, after, empty}
use Rattle.replica_invariant.specs.Purposes.{Unused, Pushing, Updating, is_committed}
use Rattle.replica_invariant.specs.ReplicaClauses.{QuietBelow, ReplicaClauses}
use Rattle.replica_invariant.specs.State.{OpenPush, Replica, Shared, State}

-- ---- the log

-- The entry after generation `begun` is of the push of a lease: its content, once it has one, is
-- what the updates with the decided hash make of the entry before, which has one.
pub record IsPushed (shared : Shared) (begun under : ℕ) : Type 0 where
  pub last : under ≤ shared.last
  pub before : Content
  pub was : (shared.entry begun).content ≡ Some before
  pub filled : (now : Content) → (shared.entry (begun + 1)).content ≡ Some now
      → now ≡ after before (shared.text under (shared.entry (begun + 1)).hash)

-- The first entry was given, and is empty where the repository was created. Each other one was
-- given with a content, or is of a push.
pub record LogClause (shared : Shared) : Type 0 where
  pub creation : shared.creation ≤ shared.last
  pub zero_lease : (shared.entry 0).lease ≡ None
  pub zero_content : 0 < shared.creation → (shared.entry 0).content ≡ Some empty
  pub given : (generation : ℕ) → generation ≤ shared.newest → (shared.entry generation).lease ≡ None
      → (shared.entry generation).content ≡ None → ⊥
  pub pushed : (begun lease : ℕ) → begun < shared.newest
      → (shared.entry (begun + 1)).lease ≡ Some lease → IsPushed shared begun lease

-- ---- storages

-- nothing was ever recorded of the replica
pub record IsUntouched (replica : Replica) : Type 0 where
  pub kept : replica.kept ≡ 0
  pub booking : replica.booking ≡ Absent
  pub floor : replica.floor ≡ None
  pub level : replica.level ≡ None
  pub had : replica.had ≡ false
  pub purpose : (lease : ℕ) → replica.purpose lease ≡ Unused
  pub job : replica.job ≡ None

-- Some storage is assigned. One that is not admitted yet is not, and nothing is recorded of its
-- replica.
pub record StorageClause (admitted : ℕ) (assigned : ℕ → Bool) (replica : ℕ → Replica) : Type 0 where
  pub some : (storage : ℕ) × (assigned storage ≡ true)
  pub known : (storage : ℕ) → admitted ≤ storage → assigned storage ≡ false
  pub fresh : (storage : ℕ) → admitted ≤ storage → IsUntouched (replica storage)

-- Where all replicas are absent, the repository was created and nothing came after: this is when it
-- may be created again.
pub record AbsentClause (shared : Shared) (replica : ℕ → Replica)
    (turn : Option OpenPush) : Type 0 where
  pub newest : shared.newest ≡ 0
  pub creation : shared.creation ≡ shared.last
  pub some : 0 < shared.creation
  pub floor : (storage : ℕ) → (replica storage).floor ≡ None
  pub idle : turn ≡ None
  pub job : (storage : ℕ) → (replica storage).job ≡ None

-- The source of an update is another replica, and was booked at the generation that the update
-- brings.
pub record SourceClause (replica : ℕ → Replica) (target source generation : ℕ) : Type 0 where
  pub other : source ≡ target → ⊥
  pub floor : (held : ℕ) × ((replica source).floor ≡ Some held) × (generation ≤ held)

-- ---- the push that has the turn

-- A member that is told is in doubt under the push, or it confirmed: then it is booked at the new
-- generation, its node answered the commit, and it has voted in the committed phase.
pub record IsTold (push : OpenPush) (cast : Bool) (replica : Replica) : Type 0 where
  pub decided : push.decided ≡ None → ⊥
  pub booking : (replica.booking ≡ Doubt push.lease push.begun (push.begun + 1))
      ⊎ ((replica.booking ≡ At (push.begun + 1))
      × (is_committed (replica.purpose push.lease) ≡ true) × (cast ≡ true))

-- One that is not told is at the generation at which the push began, and no commit was issued to
-- it.
pub record IsUntold (push : OpenPush) (replica : Replica) : Type 0 where
  pub booking : replica.booking ≡ At push.begun
  pub level : replica.level ≡ Some push.begun
  pub committed : replica.node.committed ≡ Some push.lease → ⊥
  pub purpose : replica.purpose push.lease ≡ Pushing push.begun None false

-- The kept lease of a member is that of the push, and no older effect is live there.
pub record MemberClause (push : OpenPush) (is_told cast : Bool) (replica : Replica) : Type 0 where
  pub kept : replica.kept ≡ push.lease
  pub purpose : (commit : Option Vote) × (answered : Bool)
      × (replica.purpose push.lease ≡ Pushing push.begun commit answered)
  pub quiet : QuietBelow replica push.lease
  pub told : is_told ≡ true → IsTold push cast replica
  pub untold : is_told ≡ false → IsUntold push replica

-- A push that is decided raised newest by one, and its entry has its lease and hash.
pub record IsDecided (shared : Shared) (push : OpenPush) (decided : Vote) : Type 0 where
  pub newest : shared.newest ≡ push.begun + 1
  pub lease : (shared.entry (push.begun + 1)).lease ≡ Some push.lease
  pub hash : (shared.entry (push.begun + 1)).hash ≡ decided

-- There are members; who is told is one, and so is each for whom the lease was drawn. No replica
-- was ever booked at the new generation before a member is booked there.
pub record PushClause (shared : Shared) (replica : ℕ → Replica) (push : OpenPush) : Type 0 where
  pub some : (storage : ℕ) × (push.members storage ≡ true)
  pub member : (storage : ℕ) → push.members storage ≡ true
      → MemberClause push (push.told storage) (push.cast storage) (replica storage)
  pub undecided : push.decided ≡ None → shared.newest ≡ push.begun
  pub decided : (hash : Vote) → push.decided ≡ Some hash → IsDecided shared push hash
  pub told : (storage : ℕ) → push.told storage ≡ true → push.members storage ≡ true
  pub named : (storage begun : ℕ) (commit : Option Vote) (answered : Bool)
      → (replica storage).purpose push.lease ≡ Pushing begun commit answered
      → push.members storage ≡ true
  pub first : (hash : Vote) (storage : ℕ) → push.decided ≡ Some hash
      → (replica storage).floor ≡ Some (push.begun + 1) → (member : ℕ)
      × (push.members member ≡ true) × ((replica member).booking ≡ At (push.begun + 1))

-- ---- all of it

pub record Invariant (state : State) : Type 0 where
  pub source : (target lease source generation : ℕ) (kept : Option (Content × ℕ)) (answered : Bool)
      → (state.replica target).purpose lease ≡ Updating source generation kept answered
      → SourceClause state.replica target source generation
  pub shape : StorageClause state.admitted state.assigned state.replica
  pub log : LogClause state.shared
  pub replicas : (storage : ℕ) → ReplicaClauses state.shared (state.replica storage)
  pub blank : ((storage : ℕ) → (state.replica storage).booking ≡ Absent)
      → AbsentClause state.shared state.replica state.turn
  pub turn : (push : OpenPush) → state.turn ≡ Some push → PushClause state.shared state.replica push
