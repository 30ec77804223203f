-- What a lease was drawn for at a storage, which effect was issued under it, and which answer is
-- kept.
use Rattle.std.specs.Prelude.{ℕ, Option, Some, None, Bool, true, false}
use Rattle.replica_invariant.specs.Contents.{Content, Vote}

pub data Purpose : Type 0 where
  -- nothing: no effect was issued under it
  Unused : Purpose
  -- the creation of the replica; whether the node answered that it made it
  Creation : (made : Bool) → Purpose
  -- a push that began at a generation; the hash of the commit that was issued, and whether the node
  -- answered it with a vote
  Pushing : (begun : ℕ) → (commit : Option Vote) → (answered : Bool) → Purpose
  -- a job that updates from a source to a generation; the snapshot that is kept with the level that
  -- it was read at, and whether the node applied it
  Updating : (source generation : ℕ) → (kept : Option (Content × ℕ)) → (answered : Bool) → Purpose
  -- a job that deletes; whether the node removed the replica
  Deleting : (answered : Bool) → Purpose
  -- a fence; the last committed lease that the node answered
  Fencing : (last : Option (Option ℕ)) → Purpose

-- ---- the effect that was issued under the lease, which may be delivered at any time

pub data Effect : Type 0 where
  Create : Effect
  -- of a push that began at a generation, with the hash that was decided
  Commit : (begun : ℕ) → (hash : Vote) → Effect
  -- of a snapshot that has a generation at least
  Apply : (generation : ℕ) → Effect
  Remove : Effect

abbrev pub commit_of : ℕ → Option Vote → Option Effect
commit_of begun None = None
commit_of begun (Some hash) = Some (Commit begun hash)

-- a prepare, an abort and a fence change no content: they are no effects here
abbrev pub effect : Purpose → Option Effect
effect Unused = None
effect (Creation made) = Some Create
effect (Pushing begun commit answered) = commit_of begun commit
effect (Updating source generation kept answered) = Some (Apply generation)
effect (Deleting answered) = Some Remove
effect (Fencing last) = None

-- ---- tests

-- the node answered the commit of a push
abbrev pub is_committed : Purpose → Bool
is_committed Unused = false
is_committed (Creation made) = false
is_committed (Pushing begun commit answered) = answered
is_committed (Updating source generation kept answered) = false
is_committed (Deleting answered) = false
is_committed (Fencing last) = false

abbrev pub is_creation : Purpose → Bool
is_creation Unused = false
is_creation (Creation made) = true
is_creation (Pushing begun commit answered) = false
is_creation (Updating source generation kept answered) = false
is_creation (Deleting answered) = false
is_creation (Fencing last) = false

abbrev pub is_job : Purpose → Bool
is_job Unused = false
is_job (Creation made) = false
is_job (Pushing begun commit answered) = false
is_job (Updating source generation kept answered) = true
is_job (Deleting answered) = true
is_job (Fencing last) = false
