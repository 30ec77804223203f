-- What a node holds of a replica that is booked, by the log of what was decided.
use Rattle.std.specs.Prelude.{◌≡◌, ◌≢◌, ◌≤◌, ◌<◌, ℕ, Bool, true, false, None, Some}
use Rattle.objstore.specs.Entries.{IsStore, object_at}
use Rattle.objstore.specs.Reach.{IsClosed}
use Rattle.node_calls.specs.ReplicaState.{ReplicaState}
use Rattle.px_base.specs.RefList.{ids_named_by}
use Rattle.px_ops.specs.declared.booking.Booking.TheVariants.{Absent, At}
use Rattle.px_cluster.specs.Book.{Repository, booking_on, generation}
use Rattle.px_cluster.specs.Cluster.{Cluster}
use Rattle.px_cluster.specs.Core.{repository}
use Rattle.px_cluster.specs.Ids.{gen}
use Rattle.px_cluster.specs.Ledger.{Creation, Deleting, Fencing, Purpose, Pushing, Unused, Updating}
use Rattle.replica_invariant.specs.Contents.{Content}
use Rattle.replica_invariant.specs.State.{Entry}
use Rattle.cluster_history.specs.History.{Whole}
use Rattle.cluster_runs.specs.Safe.{AreSafeTogether, IsSafeCluster}

-- ---- what is held

-- The repository is held, and its references are exactly the content of the entry. Each object that
-- they lead to is there, and each that is there stands under its own name.
pub record HoldsEntry (entry : Entry) (state : ReplicaState) : Type 0 where
  pub held : state.held ≡ true
  pub exact : entry.content ≡ Some state.refs
  pub named : IsStore state.objects
  pub closed : IsClosed (object_at state.objects) (ids_named_by state.refs)

-- the node holds what the log of the repository has of the generation
abbrev pub HoldsGeneration : Whole → (repo storage : ℕ) → Repository → ℕ → Type 0
HoldsGeneration whole repo storage book generation =
    HoldsEntry (whole.history.entry repo generation) (whole.cluster.node storage book.path)

-- .. of exactly one generation, which is this one or a later one, and is decided
pub record HoldsAtLeast (whole : Whole) (repo storage : ℕ) (book : Repository) (least : ℕ) : Type 0
  where
    pub generation : ℕ
    pub low : least ≤ generation
    pub newest : generation ≤ book.newest
    pub holds : HoldsGeneration whole repo storage book generation

-- ---- what may still be done to it

-- What was issued under the lease changes what a node holds: a create, a commit, an apply or a
-- remove. A prepare, an abort and a fence change nothing of that.
abbrev pub changes_content : Purpose → Bool
changes_content Unused = false
changes_content (Creation made) = true
changes_content (Pushing begun None answered) = false
changes_content (Pushing begun (Some hash) answered) = true
changes_content (Updating job source generation kept answered) = true
changes_content (Deleting job answered) = true
changes_content (Fencing last) = false

-- each such effect that was issued for the replica has a lease below the fence of its node, which
-- therefore does none of them, whenever they come
abbrev pub IsStill : Cluster → (repo storage : ℕ) → Repository → Type 0
IsStill cluster repo storage book = (lease : ℕ)
    → changes_content (cluster.ledger repo storage lease) ≡ true
    → lease < (cluster.node storage book.path).fence

-- ---- one state

-- what is so of a replica that is booked at newest
pub record IsCurrent (whole : Whole) (repo storage : ℕ) (book : Repository) : Type 0 where
  pub holds : HoldsGeneration whole repo storage book book.newest
  pub still : IsStill whole.cluster repo storage book

abbrev pub EachCurrentHolds : Whole → Type 0
EachCurrentHolds whole = (repo storage : ℕ) (book : Repository)
    → repository whole.cluster.core repo ≡ Some book
    → booking_on book storage ≡ At (gen book.newest) → IsCurrent whole repo storage book

-- a replica that is booked at a generation holds that one or a later one; and one that is in doubt
-- holds the one that it held before, or a later one
abbrev pub EachBookedHolds : Whole → Type 0
EachBookedHolds whole = (repo storage : ℕ) (book : Repository)
    → repository whole.cluster.core repo ≡ Some book → booking_on book storage ≢ Absent
    → HoldsAtLeast whole repo storage book (generation (booking_on book storage))

abbrev pub CurrentReplicasHold : Type 0
CurrentReplicasHold = (whole : Whole) → IsSafeCluster whole → EachCurrentHolds whole

abbrev pub BookedReplicasHold : Type 0
BookedReplicasHold = (whole : Whole) → IsSafeCluster whole → EachBookedHolds whole

-- ---- two states of one run

-- what the log has of a generation that is decided stays, from when a first member committed it on
abbrev pub ContentsStay : Whole → Whole → Type 0
ContentsStay old new = (repo generation : ℕ) (book : Repository) (content : Content)
    → repository old.cluster.core repo ≡ Some book → generation ≤ book.newest
    → (old.history.entry repo generation).content ≡ Some content
    → (new.history.entry repo generation).content ≡ Some content

-- Two replicas of a repository, or one at two times, are booked at newest, which is the same: they
-- hold the same references.
abbrev pub AgreeOnNewest : Cluster → Cluster → Type 0
AgreeOnNewest old new = (repo one other : ℕ) (book now : Repository)
    → repository old.core repo ≡ Some book → repository new.core repo ≡ Some now
    → book.newest ≡ now.newest → booking_on book one ≡ At (gen book.newest)
    → booking_on now other ≡ At (gen now.newest)
    → (old.node one book.path).refs ≡ (new.node other now.path).refs

abbrev pub LogsStay : Type 0
LogsStay = (old new : Cluster) (together : AreSafeTogether old new)
    → ContentsStay together.before together.after

abbrev pub CurrentReplicasAgree : Type 0
CurrentReplicasAgree = (old new : Cluster) → AreSafeTogether old new → AgreeOnNewest old new

-- .. and in one state
abbrev pub CurrentReplicasAgreeAtOnce : Type 0
CurrentReplicasAgreeAtOnce = (whole : Whole) → IsSafeCluster whole
    → AgreeOnNewest whole.cluster whole.cluster
