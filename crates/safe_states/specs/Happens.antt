-- What may happen to one repository, and the states that lists of it lead to.
use Rattle.std.specs.Prelude.{◌≡◌, ℕ, ◌+◌, ◌≤◌, Option, None, Some, Bool, true, false}
use Rattle.replica_invariant.specs.Contents.{Content, Updates, Vote}
use Rattle.replica_invariant.specs.Creations.{CanCreate, CanEnrol, CanMake, IsFromBefore, created, enrolled, made, opening, with_node}
use Rattle.replica_invariant.specs.Invariant.{Invariant, IsUntouched}
use Rattle.replica_invariant.specs.Jobs.{CanApply, CanEndUpdate, CanPlan, CanRead, CanRemove, CanTakeDelete, CanTakeUpdate, applied, delete_taken, draw_at, ended, removed, update_taken, with_job}
use Rattle.replica_invariant.specs.ManyJobs.{MayHave, with_jobs}
use Rattle.replica_invariant.specs.Purposes.{Pushing, Updating}
use Rattle.replica_invariant.specs.Pushes.{CanAbort, CanBegin, CanCommit, CanConfirm, CanDecide, CanIssue, CanJoin, CanPrepare, begun, commit_arrived, confirmed_cast, decided, issued, joined, prepared, raised, with_votes}
use Rattle.replica_invariant.specs.Repairs.{CanAccept, CanAnswer, CanFence, CanSettle, accepted, booked_at, fence_answered, fence_drawn, raised_to}
use Rattle.replica_invariant.specs.State.{AtNode, Job, JobState, OpenPush, ReadyPush, Running, State, with_replica}

-- one event, from the state before to the state after
pub data Happens : State → State → Type 0 where
  -- creation, enrolment, admission, the factor
  Creates : (old : State) (chosen : ℕ → Bool) → CanCreate old chosen
      → Happens old (created old chosen)
  Makes : (old : State) (storage lease : ℕ) (before answered : Bool)
      → CanMake (old.replica storage) lease before → (before ≡ true → answered ≡ true)
      → Happens old (with_replica old storage (made (old.replica storage) lease answered))
  Enrols : (old : State) (storage : ℕ) → CanEnrol old.shared (old.replica storage)
      → Happens old (with_replica old storage (enrolled (old.replica storage)))
  Admits : (old : State) → Happens old (record old { admitted = old.admitted + 1 })
  Appears : (old : State) (storage : ℕ) (node : AtNode) → IsUntouched (old.replica storage)
      → IsFromBefore node old.shared.text
      → Happens old (with_replica old storage (with_node (old.replica storage) node))
  Assigns : (old : State) (chosen : ℕ → Bool) → ((storage : ℕ) × (chosen storage ≡ true))
      → ((storage : ℕ) → old.admitted ≤ storage → chosen storage ≡ false)
      → Happens old (record old { assigned = chosen })
  -- pushes
  Begins : (old : State) (members : ℕ → Bool) → CanBegin old members
      → Happens old (begun old members)
  Prepares : (old : State) (storage lease : ℕ) (updates : Updates)
      → CanPrepare old.shared (old.replica storage) lease updates
      → Happens old (with_replica old storage (prepared (old.replica storage) lease updates))
  Aborts : (old : State) (storage lease : ℕ) → CanAbort (old.replica storage) lease
      → Happens old (with_replica old storage (raised (old.replica storage) (lease + 1)))
  Loses : (old : State) (storage : ℕ)
      → Happens old
      (with_replica old storage (raised (old.replica storage) (old.replica storage).node.fence))
  Decides : (old : State) (push : OpenPush) (told : ℕ → Bool) (hash : Vote)
      → CanDecide old push told → Happens old (decided old push told hash)
  Joins : (old : State) (push : OpenPush) (voter : ℕ) (hash : Vote) → CanJoin old push voter hash
      → Happens old (joined old push voter)
  Issues : (old : State) (push : OpenPush) (voter : ℕ) (hash : Vote) (before : Option Vote)
      (answered : Bool) → CanIssue old push voter hash before answered
      → Happens old
      (with_replica old voter
      (issued (old.replica voter) push.lease (Pushing push.begun (Some hash) answered)))
  Commits : (old : State) (storage lease begun : ℕ) (hash : Vote) (before answered : Bool)
      (push : ReadyPush) → CanCommit (old.replica storage) lease begun hash before push
      → (before ≡ true → answered ≡ true)
      → Happens old (commit_arrived old storage lease begun hash answered push.content)
  Confirms : (old : State) (push : OpenPush) (voter : ℕ) (hash : Vote)
      → CanConfirm old push voter hash → Happens old (confirmed_cast old push voter)
  Votes : (old : State) (push : OpenPush) (cast : ℕ → Bool) → old.turn ≡ Some push
      → ((storage : ℕ) → push.cast storage ≡ true → cast storage ≡ true)
      → Happens old (with_votes old push cast)
  Finishes : (old : State) → Happens old (record old { turn = None })
  -- jobs
  Plans : (old : State) (target : ℕ) (job : Job) → CanPlan old target job
      → Happens old (with_replica old target (with_job (old.replica target) (Some job)))
  Drops : (old : State) (target : ℕ)
      → Happens old (with_replica old target (with_job (old.replica target) None))
  Fails : (old : State) (target : ℕ) (job : Job) (then_ : JobState)
      → (old.replica target).job ≡ Some job → ((lease : ℕ) → then_ ≡ Running lease → ⊥)
      → Happens old
      (with_replica old target
      (with_job (old.replica target) (Some (record job { state = then_ }))))
  Queues : (old : State) (jobs : ℕ → Option Job)
      → ((storage : ℕ) (job : Job) → jobs storage ≡ Some job → MayHave old storage job)
      → Happens old (with_jobs old jobs)
  TakesUpdate : (old : State) (target source : ℕ) → CanTakeUpdate old target source
      → Happens old (update_taken old target source)
  TakesDelete : (old : State) (target : ℕ) → CanTakeDelete old target
      → Happens old (delete_taken old target)
  Reads : (old : State) (target lease source generation level : ℕ) (before : Option (Content × ℕ))
      (answered : Bool) → CanRead old target lease source generation level before answered
      → Happens old
      (with_replica old target
      (issued (old.replica target) lease
      (Updating source generation (Some ((old.replica source).node.refs, level)) answered)))
  Applies : (old : State) (target lease source generation level : ℕ) (refs : Content)
      (before answered : Bool)
      → CanApply (old.replica target) lease source generation level refs before
      → Happens old
      (with_replica old target
      (applied (old.replica target) lease source generation refs level answered))
  Removes : (old : State) (target lease : ℕ) (before answered : Bool)
      → CanRemove (old.replica target) lease before
      → Happens old (with_replica old target (removed (old.replica target) lease answered))
  EndsUpdate : (old : State) (target : ℕ) (job : Job) (lease source : ℕ)
      (kept : Option (Content × ℕ)) → CanEndUpdate (old.replica target) job lease source kept
      → Happens old (with_replica old target (ended (old.replica target) job.generation))
  -- fences, settling, accepting
  DrawsFence : (old : State) (target : ℕ) (left : Option Job) → CanFence old target left
      → Happens old
      (draw_at old target (fence_drawn (old.replica target) (old.shared.last + 1) left))
  AnswersFence : (old : State) (target lease fence : ℕ) (ready : Option ReadyPush)
      → CanAnswer (old.replica target) lease fence ready
      → Happens old
      (with_replica old target (fence_answered (old.replica target) lease fence ready))
  MissesFence : (old : State) (target lease fence : ℕ) (ready : Option ReadyPush)
      → CanAnswer (old.replica target) lease fence ready
      → Happens old (with_replica old target (raised_to (old.replica target) fence ready))
  Settles : (old : State) (storage : ℕ) (answer : Option ℕ) (lease was due generation : ℕ)
      → CanSettle (old.replica storage) answer lease was due generation
      → Happens old (with_replica old storage (booked_at (old.replica storage) generation))
  Accepts : (old : State) (storage : ℕ) → CanAccept old storage → Happens old (accepted old storage)

-- a repository is created, over whatever the nodes have of its path, and then one thing after the
-- other happens, in any order, any number of times
pub data IsReached : State → Type 0 where
  Starts : (node : ℕ → AtNode) (text : ℕ → Vote → Updates) (admitted : ℕ) (chosen : ℕ → Bool)
      → ((storage : ℕ) → IsFromBefore (node storage) text)
      → CanCreate (opening node text admitted) chosen
      → IsReached (created (opening node text admitted) chosen)
  Goes : (old new : State) → IsReached old → Happens old new → IsReached new

abbrev pub EventKeeps : Type 0
EventKeeps = (old new : State) → Happens old new → Invariant old → Invariant new

abbrev pub ReachedKeeps : Type 0
ReachedKeeps = (state : State) → IsReached state → Invariant state
