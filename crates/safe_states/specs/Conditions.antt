-- What the steps of the book need, and every state has.
use Rattle.std.specs.Prelude.{◌≡◌, ◌≤◌, ◌+◌, ℕ, Bool, false, true, None, Some}
use Rattle.replica_invariant.specs.Booking.{At, Doubt}
use Rattle.replica_invariant.specs.Contents.{Vote}
use Rattle.replica_invariant.specs.Invariant.{Invariant}
use Rattle.replica_invariant.specs.Pushes.{CanBegin, CanConfirm}
use Rattle.replica_invariant.specs.State.{Job, OpenPush, State}

-- before a push is decided, each member is booked at newest
abbrev pub MembersAreAt : Type 0
MembersAreAt = (state : State) (push : OpenPush) (storage : ℕ) → Invariant state
    → state.turn ≡ Some push → push.decided ≡ None
    → push.members storage ≡ true → (state.replica storage).booking ≡ At state.shared.newest

-- after it, who is not told is booked at the generation before
abbrev pub LateVotersAreAt : Type 0
LateVotersAreAt = (state : State) (push : OpenPush) (storage : ℕ) (hash : Vote) → Invariant state
    → state.turn ≡ Some push → push.decided ≡ Some hash
    → push.members storage ≡ true → push.told storage ≡ false
    → ((state.replica storage).booking ≡ At push.begun) × (state.shared.newest ≡ push.begun + 1)

-- who confirms is in doubt under the lease of the push
abbrev pub ConfirmersAreInDoubt : Type 0
ConfirmersAreInDoubt = (state : State) (push : OpenPush) (voter : ℕ) (hash : Vote) → Invariant state
    → CanConfirm state push voter hash
    → (state.replica voter).booking ≡ Doubt push.lease push.begun (push.begun + 1)

-- the generation of a job is at most newest
abbrev pub JobsAreDecided : Type 0
JobsAreDecided = (state : State) (target : ℕ) (job : Job) → Invariant state
    → (state.replica target).job ≡ Some job
    → job.generation ≤ state.shared.newest

-- no member refuses the lease of a push that begins: its fence is not above it
abbrev pub MembersAreNotFenced : Type 0
MembersAreNotFenced = (state : State) (members : ℕ → Bool) (storage : ℕ) → Invariant state
    → CanBegin state members → members storage ≡ true
    → (state.replica storage).node.fence ≤ state.shared.last + 1
