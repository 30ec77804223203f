-- The state of one repository on record: what the core and the nodes have of it, and beside it what
-- nobody stores and the argument needs, which are the log, floors and levels.
use Rattle.std.specs.Prelude.{ℕ, ◌==◌, Option, Bool, if◌then◌else◌}
use Rattle.replica_invariant.specs.Booking.{Booking}
use Rattle.replica_invariant.specs.Contents.{Content, Updates, Vote}
use Rattle.replica_invariant.specs.Purposes.{Purpose}

-- ---- the log

-- the content of a generation: the lease of the push that made it, or none where it was given; the
-- hash that was decided; and the content, or none as long as no member committed it
pub record Entry : Type 0 where
  pub lease : Option ℕ
  pub hash : Vote
  pub content : Option Content

-- What all replicas share: the newest generation, the last lease, the lease of the creation, or 0,
-- and the entry of each generation. `text` has the one list of updates that a push has with a vote,
-- by its lease: no two lists that one push prepared have the same vote.
pub record Shared : Type 0 where
  pub newest : ℕ
  pub last : ℕ
  pub creation : ℕ
  pub entry : ℕ → Entry
  pub text : ℕ → Vote → Updates

-- ---- replicas

-- a push that is ready at a node: the lease that it came under, its updates, and what they lead to
pub record ReadyPush : Type 0 where
  pub lease : ℕ
  pub updates : Updates
  pub content : Content

-- what the node has of the replica: whether it holds it, its references, the fence, which is the
-- least lease that an effect may carry, the lease of the last push that was done, and the push that
-- is ready
pub record AtNode : Type 0 where
  pub held : Bool
  pub refs : Content
  pub fence : ℕ
  pub committed : Option ℕ
  pub ready : Option ReadyPush

-- a job waits, runs under a lease, or is dead
pub data JobState : Type 0 where
  Waiting : JobState
  Running : (lease : ℕ) → JobState
  Dead : JobState

-- the job of a target: an update, or else a delete, and the generation that it was planned or taken
-- for
pub record Job : Type 0 where
  pub update : Bool
  pub generation : ℕ
  pub state : JobState

-- What belongs to the replica on one storage: the last lease that was drawn for it; its booking;
-- its floor, the greatest generation that it was ever booked at; what the node has; its level, the
-- generation whose content the node holds; whether it ever had a level; what each lease was drawn
-- for there; and its job. Whether the storage is assigned stands apart: no clause on one replica
-- reads it.
pub record Replica : Type 0 where
  pub kept : ℕ
  pub booking : Booking
  pub floor : Option ℕ
  pub node : AtNode
  pub level : Option ℕ
  pub had : Bool
  pub purpose : ℕ → Purpose
  pub job : Option Job

-- ---- the repository

-- The push that has the turn, with what its votes amount to: its lease, the newest generation when
-- it began, its members, the hash of the decision, who is told to commit, and who has voted for
-- that hash in the committed phase.
pub record OpenPush : Type 0 where
  pub lease : ℕ
  pub begun : ℕ
  pub members : ℕ → Bool
  pub decided : Option Vote
  pub told : ℕ → Bool
  pub cast : ℕ → Bool

-- storages have dense numbers from 0, below `admitted`
pub record State : Type 0 where
  pub shared : Shared
  pub admitted : ℕ
  pub assigned : ℕ → Bool
  pub replica : ℕ → Replica
  pub turn : Option OpenPush

-- ---- what changes

-- the function with another value at one number
abbrev pub with_value : {A : Type 0} → (ℕ → A) → ℕ → A → ℕ → A
with_value f number value x = if x == number then value else f x

abbrev pub with_replica : State → ℕ → Replica → State
with_replica state storage replica = record state {
  replica = with_value state.replica storage replica;
}
