-- What is so of two states of one run, the one before the other.
use Rattle.std.specs.Prelude.{◌≡◌, ◌≢◌, ◌≤◌, ◌<◌, ℕ, Bool, true, false, List, Some}
use Rattle.node_calls.specs.ReplicaState.{NodeState}
use Rattle.px_base.specs.declared.ids.Gen.{Gen}
use Rattle.px_base.specs.declared.ids.RepoId.{RepoId}
use Rattle.px_ops.specs.declared.booking.Booking.TheVariants.{Absent, At}
use Rattle.px_ops.specs.declared.op.Op.TheVariants as op
use Rattle.px_ops.specs.declared.reply.Reply.TheVariants as reply
use Rattle.px_cluster.specs.Astray.{Happens, Move, Moves, MovesOn}
use Rattle.px_cluster.specs.Book.{Repository, booking_on, generation}
use Rattle.px_cluster.specs.Cluster.{Cluster, starting_with}
use Rattle.px_cluster.specs.Core.{Core, is_up, name_of, repository}
use Rattle.px_cluster.specs.Events.{Replied}
use Rattle.px_cluster.specs.Events as event
use Rattle.px_cluster.specs.Growth.{Grows}
use Rattle.px_cluster.specs.Ids.{gen}
use Rattle.px_cluster.specs.Ledger.{Deleting}
use Rattle.cluster_history.specs.History.{Whole}
use Rattle.cluster_runs.specs.Current.{HoldsAtLeast}
use Rattle.cluster_runs.specs.Safe.{AreSafeTogether}

-- ---- newest

-- Over every list of moves, from any state and with no premise on hashes: a repository stays on
-- record under its number, with its virtual storage and path, and its newest generation and its
-- last lease do not fall; nor do the last numbers of transactions and jobs.
abbrev pub NewestNeverFalls : Type 0
NewestNeverFalls = (old new : Cluster) (moves : List Move) → MovesOn old moves new
    → Grows old.core new.core

-- ---- bookings

-- where a replica is booked at a generation or in doubt, and so it is later, the generation of the
-- later booking is not below that of the first, also over a time of absence; in doubt it is the one
-- held before
abbrev pub NoBookingFalls : Cluster → Cluster → Type 0
NoBookingFalls old new = (repo storage : ℕ) (book now : Repository)
    → repository old.core repo ≡ Some book → repository new.core repo ≡ Some now
    → booking_on book storage ≢ Absent → booking_on now storage ≢ Absent
    → generation (booking_on book storage) ≤ generation (booking_on now storage)

abbrev pub BookingsNeverFall : Type 0
BookingsNeverFall = (old new : Cluster) → AreSafeTogether old new → NoBookingFalls old new

-- Between the two states a lease was drawn to delete the replica: one above the last one of then.
pub record WasDeleted (book : Repository) (now : Cluster) (repo storage : ℕ) : Type 0 where
  pub lease : ℕ
  pub later : book.last < lease
  pub job : ℕ
  pub answered : Bool
  pub drawn : now.ledger repo storage lease ≡ Deleting job answered

-- a replica that was booked at a generation or in doubt, and is absent later, was deleted by a job
abbrev pub GoesByDeletes : Cluster → Cluster → Type 0
GoesByDeletes old new = (repo storage : ℕ) (book now : Repository)
    → repository old.core repo ≡ Some book → repository new.core repo ≡ Some now
    → booking_on book storage ≢ Absent → booking_on now storage ≡ Absent
    → WasDeleted book new repo storage

abbrev pub ReplicasGoByDeletes : Type 0
ReplicasGoByDeletes = (old new : Cluster) → AreSafeTogether old new → GoesByDeletes old new

-- ---- reads

-- A read was told a name and a generation. That is the newest one of the repository, and the name
-- that of a storage which is up, and whose replica is booked there.
pub record IsRouted (core : Core) (repo : ℕ) (name : List ℕ) (told : Gen) : Type 0 where
  pub book : Repository
  pub there : repository core repo ≡ Some book
  pub newest : told ≡ gen book.newest
  pub storage : ℕ
  pub called : name ≡ name_of core storage
  pub up : is_up core storage ≡ true
  pub booked : booking_on book storage ≡ At told

-- so it is of each read of a run that is not refused
abbrev pub ReadsGoToCurrentReplicas : Type 0
ReadsGoToCurrentReplicas = (node : ℕ → NodeState) (moves : List Move) (old new : Cluster)
    (repo : RepoId) (name : List ℕ) (told : Gen) → MovesOn (starting_with node) moves old
    → Moves old (Happens (event.Asks (op.RouteRead repo)) (Replied (reply.Route name told))) new
    → IsRouted old.core repo.0 name told

-- A read was routed to a replica that was booked at a generation, and its node is asked later. It
-- holds the content of that generation or of a later one, which is at most the newest then, and all
-- that this leads to; or it does not hold the repository, the replica is booked absent, and a
-- delete of it was taken in between.
pub record IsAnswered (after : Whole) (repo storage routed : ℕ) (book now : Repository) : Type 0
  where
    pub held : (after.cluster.node storage now.path).held ≡ true
        → HoldsAtLeast after repo storage now routed
    pub gone : (after.cluster.node storage now.path).held ≡ false
        → (booking_on now storage ≡ Absent) × WasDeleted book after.cluster repo storage

-- each read that is routed in the one state is answered so in the other
abbrev pub EachReadIsAnswered : Cluster → Whole → Type 0
EachReadIsAnswered old after = (repo storage : ℕ) (book now : Repository) (routed : Gen)
    → repository old.core repo ≡ Some book → repository after.cluster.core repo ≡ Some now
    → booking_on book storage ≡ At routed → IsAnswered after repo storage routed.0 book now

abbrev pub RoutedReadsAreAnswered : Type 0
RoutedReadsAreAnswered = (old new : Cluster) (together : AreSafeTogether old new)
    → EachReadIsAnswered old together.after
