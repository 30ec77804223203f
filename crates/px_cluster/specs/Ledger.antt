-- The ledger: of each lease what it was drawn for at a storage, which effect was issued under it, and
-- which answer of the node is kept.
use Rattle.std.specs.Prelude.{ℕ, ◌==◌, ◌&&◌, Bool, true, false, if◌then◌else◌, Option, None, Some}
use Rattle.px_base.specs.declared.hash.Hash.{Hash}
use Rattle.node_calls.specs.declared.snapshot.Snapshot.{Snapshot}

-- what a lease was drawn for at a storage
pub data Purpose : Type 0 where
  -- nothing: no effect was issued under it
  Unused : Purpose
  -- the creation of a replica; whether the node answered that it made it
  Creation : (made : Bool) → Purpose
  -- a push that began at a generation; the hash of the commit that was issued, and whether the node
  -- answered it with a vote
  Pushing : (begun : ℕ) → (commit : Option Hash) → (answered : Bool) → Purpose
  -- a job that updates from a source to a generation; the snapshot that is kept, and whether the node
  -- applied it
  Updating : (job source generation : ℕ) → (kept : Option Snapshot) → (answered : Bool) → Purpose
  -- a job that deletes; whether the node removed it
  Deleting : (job : ℕ) → (answered : Bool) → Purpose
  -- a fence; the last committed lease that the node answered
  Fencing : (last : Option (Option ℕ)) → Purpose

-- by repository, storage and lease
abbrev pub Ledger : Type 0
Ledger = ℕ → ℕ → ℕ → Purpose

abbrev pub unused : Ledger
unused repo storage lease = Unused

-- with another purpose of a lease, at each storage of the repository that passes a test
abbrev pub with_purposes : Ledger → ℕ → (ℕ → Bool) → ℕ → (ℕ → Purpose → Purpose) → Ledger
with_purposes ledger repo test lease change r s l =
    if (r == repo) && test s && (l == lease) then change s (ledger r s l) else ledger r s l

abbrev pub with_purpose : Ledger → ℕ → ℕ → ℕ → Purpose → Ledger
with_purpose ledger repo storage lease purpose =
    with_purposes ledger repo (λ s. s == storage) lease (λ s old. purpose)

-- ---- which effect was issued

abbrev pub is_creation : Purpose → Bool
is_creation (Creation made) = true
is_creation other = false

-- a prepare and an abort are issued as soon as the push begins
abbrev pub is_push : Purpose → Bool
is_push (Pushing begun commit answered) = true
is_push other = false

abbrev pub commit_in : Purpose → Option Hash
commit_in (Pushing begun commit answered) = commit
commit_in other = None

-- the source of an update of this job
abbrev pub source_in : ℕ → Purpose → Option ℕ
source_in number (Updating job source generation kept answered) =
    if job == number then Some source else None
source_in number other = None

-- the snapshot that is kept for an update of this job
abbrev pub snapshot_in : ℕ → Purpose → Option Snapshot
snapshot_in number (Updating job source generation kept answered) =
    if job == number then kept else None
snapshot_in number other = None

abbrev pub is_delete_of : ℕ → Purpose → Bool
is_delete_of number (Deleting job answered) = job == number
is_delete_of number other = false

abbrev pub is_fence : Purpose → Bool
is_fence (Fencing last) = true
is_fence other = false

-- ---- which answer is kept

-- the node made the replica
abbrev pub is_made : Purpose → Bool
is_made (Creation made) = made
is_made other = false

-- the node answered the commit with a vote
abbrev pub is_committed : Purpose → Bool
is_committed (Pushing begun commit answered) = answered
is_committed other = false

-- the node applied the snapshot, or removed the replica, for this job
abbrev pub is_worked : ℕ → Purpose → Bool
is_worked number (Updating job source generation kept answered) = (job == number) && answered
is_worked number (Deleting job answered) = (job == number) && answered
is_worked number other = false

-- what the node answered to the fence
abbrev pub fence_answer : Purpose → Option (Option ℕ)
fence_answer (Fencing last) = last
fence_answer other = None

-- ---- what becomes of it

abbrev pub with_commit : Hash → Purpose → Purpose
with_commit hash (Pushing begun commit answered) = Pushing begun (Some hash) answered
with_commit hash other = other

abbrev pub with_snapshot : Snapshot → Purpose → Purpose
with_snapshot snapshot (Updating job source generation kept answered) =
    Updating job source generation (Some snapshot) answered
with_snapshot snapshot other = other

-- the node answered
abbrev pub answered : Purpose → Purpose
answered Unused = Unused
answered (Creation made) = Creation true
answered (Pushing begun commit before) = Pushing begun commit true
answered (Updating job source generation kept before) = Updating job source generation kept true
answered (Deleting job before) = Deleting job true
answered (Fencing last) = Fencing last

abbrev pub with_last : Option ℕ → Purpose → Purpose
with_last last (Fencing before) = Fencing (Some last)
with_last last other = other
