-- A push that its members vote for ends committed.
use Rattle.std.specs.Prelude.{◌≡◌, ◌≤◌, ◌+◌, ◌==◌, ◌⊎◌, ℕ, Bool, true, false, List, [], ◌∷◌, slice_get, Some}
use Rattle.std.specs.List.{AllByRecursion}
use Rattle.node_calls.specs.ReplicaState.{NodeState}
use Rattle.px_base.specs.declared.hash.Hash.{Hash}
use Rattle.px_base.specs.declared.ids.RepoId.{RepoId}
use Rattle.px_base.specs.declared.ids.TxId.{TxId}
use Rattle.px_base.specs.declared.phase.Phase.{Phase}
use Rattle.px_base.specs.declared.phase.Phase.TheVariants.{Prepared, Committed}
use Rattle.px_ops.specs.declared.op.Op.{Op}
use Rattle.px_ops.specs.declared.op.Op.TheVariants as op
use Rattle.px_ops.specs.declared.push.Begun.{Begun}
use Rattle.px_ops.specs.declared.push.PushEnd.TheVariants as end
use Rattle.px_ops.specs.declared.refusal.Refusal.{Refusal}
use Rattle.px_ops.specs.declared.reply.Reply.TheVariants as reply
use Rattle.txmanager.specs.Rounds.{opened}
use Rattle.txmanager.specs.Voting.{Voting}
use Rattle.voters.specs.Panel.{poll_of}
use Rattle.voters.specs.Rule.{weight_from}
use Rattle.voters.specs.declared.outcome.Outcome.TheVariants.{Commit}
use Rattle.voters.specs.declared.voter_result.VoterResult.{VoterResult}
use Rattle.px_cluster.specs.Astray.{Happens, Move, Moves, MovesOn}
use Rattle.px_cluster.specs.Cluster.{Cluster, starting_with}
use Rattle.px_cluster.specs.Core.{Core, OpenPush, name_of, push_of, voting}
use Rattle.px_cluster.specs.Events.{Answer, Event, Replied, refused}
use Rattle.px_cluster.specs.Events as event
use Rattle.px_cluster.specs.Ids.{gen}
use Rattle.px_cluster.specs.Numbers.{is_one_of}
use Rattle.px_cluster.specs.Ops.{reply_of}
use Rattle.px_cluster.specs.Pushes.{committed_outcome, prepared_outcome}
use Rattle.cluster_form.specs.Turns.{panel_for}

-- ---- what may come between

-- the operation withdraws a voter of the transaction, or cancels, stops or ends it
abbrev pub hinders : TxId → Op → Bool
hinders tx (op.Withdraw other voter) = tx.0 == other.0
hinders tx (op.Cancel other) = tx.0 == other.0
hinders tx (op.Stop other) = tx.0 == other.0
hinders tx (op.Close other) = tx.0 == other.0
hinders tx (op.Finish other) = tx.0 == other.0
hinders tx other = false

-- the event is no such operation, and no restart
abbrev pub LeavesAlone : TxId → Event → Type 0
LeavesAlone tx (event.Asks asked) = hinders tx asked ≡ false
LeavesAlone tx event.Restart = ⊥
LeavesAlone tx other = Unit {0}

-- the answer is a refusal
abbrev pub IsRefused : Answer → Type 0
IsRefused answer = (why : Refusal) × (answer ≡ refused why)

-- whatever happens is no such event, or was refused
abbrev pub IsLeftAlone : TxId → Move → Type 0
IsLeftAlone tx (Happens happened answer) = IsRefused answer ⊎ LeavesAlone tx happened
IsLeftAlone tx other = Unit {0}

-- ---- votes that were accepted

-- the move is a cast of the hash under the name in the phase, which was answered with a result
pub record IsAcceptedCast (tx : TxId) (name : List ℕ) (phase : Phase) (hash : Hash) (move : Move)
    : Type 0 where
  pub sub : ℕ
  pub result : VoterResult
  pub asked : move ≡ Happens (event.Asks (op.Cast tx name phase hash))
      (Replied (reply.Counted sub result))

-- one of the moves is
abbrev pub HasAccepted : TxId → List ℕ → Phase → Hash → List Move → Type 0
HasAccepted tx name phase hash [] = ⊥
HasAccepted tx name phase hash (move ∷ moves) =
    IsAcceptedCast tx name phase hash move ⊎ HasAccepted tx name phase hash moves

-- a cast of the hash was accepted of the storage in both phases
pub record HasVotedFor (core : Core) (push : OpenPush) (hash : Hash) (moves : List Move)
    (storage : ℕ) : Type 0 where
  pub prepared : HasAccepted push.tx (name_of core storage) Prepared hash moves
  pub committed : HasAccepted push.tx (name_of core storage) Committed hash moves

-- each member voted so
abbrev pub AllVoteFor : Core → OpenPush → Hash → List Move → Type 0
AllVoteFor core push hash moves = (storage : ℕ) → is_one_of storage push.members ≡ true
    → HasVotedFor core push hash moves storage

-- Members at some places, which are those of the voters in the panel, weigh at least its threshold.
-- Each of them voted so.
pub record QuorumVotesFor (core : Core) (push : OpenPush) (hash : Hash) (moves : List Move) : Type 0
  where
    pub agree : ℕ → Bool
    pub reaches : (panel_for core.storages push.members).threshold
        ≤ weight_from agree 0 (poll_of (panel_for core.storages push.members)).weights
    pub each : (place storage : ℕ) → slice_get push.members place ≡ Some storage
        → agree place ≡ true → HasVotedFor core push hash moves storage

-- ---- from the start of a push to its end

-- the push is open, and nothing was done on its transaction yet
pub record IsUntouched (core : Core) (push : OpenPush) : Type 0 where
  pub turn : push_of core push.tx ≡ Some push
  pub vote : Voting
  pub there : voting core push.tx ≡ Some vote
  pub subs : vote.subs ≡ opened (poll_of (panel_for core.storages push.members)) 2

-- .. and it has the transaction that was told
pub record HasBegun (core : Core) (begun : Begun) : Type 0 where
  pub push : OpenPush
  pub tx : push.tx ≡ begun.tx
  pub untouched : IsUntouched core push

-- both phases commit the hash; so a Finish is not refused, and answers the generation after the one at
-- which the push began
pub record EndsCommitted (core : Core) (push : OpenPush) (hash : Hash) : Type 0 where
  pub vote : Voting
  pub there : voting core push.tx ≡ Some vote
  pub prepared : prepared_outcome vote ≡ Commit hash
  pub committed : committed_outcome vote ≡ Commit hash
  pub finished : reply_of core (op.Finish push.tx)
      ≡ reply.Finished (end.Committed (gen (push.begun + 1)))

-- A Begin of a run that is not refused opens such a push.
abbrev pub PushesBeginUntouched : Type 0
PushesBeginUntouched = (node : ℕ → NodeState) (moves : List Move) (old new : Cluster)
    (repo : RepoId) (begun : Begun) → MovesOn (starting_with node) moves old
    → Moves old (Happens (event.Asks (op.Begin repo)) (Replied (reply.Begun begun))) new
    → HasBegun new.core begun

-- A push that nothing was done on yet, and moves from there, of which none hinders it and in which a
-- quorum of the members voted for one hash in both phases: the push ends committed.
abbrev pub PushesThatAQuorumVotesForEndCommitted : Type 0
PushesThatAQuorumVotesForEndCommitted = (node : ℕ → NodeState) (moves more : List Move)
    (old new : Cluster) (push : OpenPush) (hash : Hash) → MovesOn (starting_with node) moves old
    → IsUntouched old.core push → MovesOn old more new
    → AllByRecursion (IsLeftAlone push.tx) more → QuorumVotesFor old.core push hash more
    → EndsCommitted new.core push hash

-- So it does where all members voted so.
abbrev pub PushesThatAllVoteForEndCommitted : Type 0
PushesThatAllVoteForEndCommitted = (node : ℕ → NodeState) (moves more : List Move)
    (old new : Cluster) (push : OpenPush) (hash : Hash) → MovesOn (starting_with node) moves old
    → IsUntouched old.core push → MovesOn old more new
    → AllByRecursion (IsLeftAlone push.tx) more → AllVoteFor old.core push hash more
    → EndsCommitted new.core push hash
