-- When a commit is issued to a member of a push, and who voted for it.
use Rattle.std.specs.Prelude.{◌≡◌, ◌≤◌, ℕ, true, List, slice_get, Some}
use Rattle.node_calls.specs.ReplicaState.{NodeState}
use Rattle.px_base.specs.declared.hash.Hash.{Hash}
use Rattle.px_base.specs.declared.ids.TxId.{TxId}
use Rattle.px_ops.specs.declared.op.Op.TheVariants as op
use Rattle.px_ops.specs.declared.reply.Reply.TheVariants as reply
use Rattle.txmanager.specs.Voting.{Voting}
use Rattle.voters.specs.Marks.{standing_weight}
use Rattle.voters.specs.Verdict.{Standing}
use Rattle.voters.specs.Votes.{Votes}
use Rattle.voters.specs.declared.outcome.Outcome.TheVariants.{Commit}
use Rattle.voters.specs.declared.voter_result.VoterResult.TheVariants as result
use Rattle.px_cluster.specs.Astray.{Happens, Move, Moves, MovesOn}
use Rattle.px_cluster.specs.Cluster.{Cluster, starting_with}
use Rattle.px_cluster.specs.Core.{OpenPush, name_of, push_of, voting}
use Rattle.px_cluster.specs.Events.{Replied}
use Rattle.px_cluster.specs.Events as event
use Rattle.px_cluster.specs.Ledger.{commit_in}
use Rattle.px_cluster.specs.Numbers.{is_one_of}
use Rattle.cluster_form.specs.Turns.{panel_for}

-- ---- a commit that is issued

-- a commit of the hash was issued to the storage, under the lease of the repository
abbrev pub IsOut : Cluster → (repo storage lease : ℕ) → Hash → Type 0
IsOut cluster repo storage lease hash = commit_in (cluster.ledger repo storage lease) ≡ Some hash

-- The move is a collect in the prepared phase, which answered that the voter is committed, with a
-- verdict of the hash. Its transaction is an open push of the repository, under the lease, and the voter
-- has the name of the storage, which is a member.
pub record IsIssuedBy (old : Cluster) (move : Move) (repo storage lease : ℕ) (hash : Hash) : Type 0
  where
    pub tx : TxId
    pub voter : List ℕ
    pub verdict : Standing
    pub asked : move ≡ Happens (event.Asks (op.Collect tx voter 1))
        (Replied (reply.Counted 1 (result.Committed verdict)))
    pub names : verdict.hash ≡ hash
    pub push : OpenPush
    pub turn : push_of old.core tx ≡ Some push
    pub of_repo : push.repo ≡ repo
    pub of_lease : push.lease ≡ lease
    pub member : is_one_of storage push.members ≡ true
    pub called : voter ≡ name_of old.core storage

-- A commit of a hash that is out after a move of a run, and was not before it, was issued by that move.
abbrev pub CommitsAreIssuedByCollects : Type 0
CommitsAreIssuedByCollects = (node : ℕ → NodeState) (moves : List Move) (old new : Cluster)
    (move : Move) (repo storage lease : ℕ) (hash : Hash) → MovesOn (starting_with node) moves old
    → Moves old move new → IsOut new repo storage lease hash → ¬ (IsOut old repo storage lease hash)
    → IsIssuedBy old move repo storage lease hash

-- ---- the quorum behind it

-- the prepared phase decided for the hash, and standing votes that weigh at least the threshold name it
pub record IsNamedByQuorum (threshold : ℕ) (vote : Voting) (hash : Hash) : Type 0 where
  pub prepared : Votes
  pub there : slice_get vote.subs 0 ≡ Some prepared
  pub decided : prepared.outcome ≡ Commit hash
  pub quorum : threshold ≤ standing_weight hash prepared.marks

-- A commit was issued by a move of a run. In the state after it, and in each later one in which the
-- transaction of the push is still on record, a quorum of the members' panel names its hash.
abbrev pub IssuedCommitsAreNamed : Type 0
IssuedCommitsAreNamed = (node : ℕ → NodeState) (moves more : List Move) (old new later : Cluster)
    (move : Move) (repo storage lease : ℕ) (hash : Hash) → MovesOn (starting_with node) moves old
    → Moves old move new → IsOut new repo storage lease hash → ¬ (IsOut old repo storage lease hash)
    → MovesOn new more later → (issued : IsIssuedBy old move repo storage lease hash)
    × ((vote : Voting) → voting later.core issued.tx ≡ Some vote
    → IsNamedByQuorum (panel_for old.core.storages issued.push.members).threshold vote hash)

-- In every state of every run: a commit that was issued under the lease of an open push is that of the
-- hash that its prepared phase decided for, and a quorum of its members' panel names it.
abbrev pub OpenPushesCommitWhatTheyDecided : Type 0
OpenPushesCommitWhatTheyDecided = (node : ℕ → NodeState) (moves : List Move) (new : Cluster)
    (tx : TxId) (push : OpenPush) (vote : Voting) (storage : ℕ) (hash : Hash)
    → MovesOn (starting_with node) moves new → push_of new.core tx ≡ Some push
    → voting new.core tx ≡ Some vote → IsOut new push.repo storage push.lease hash
    → IsNamedByQuorum (panel_for new.core.storages push.members).threshold vote hash
