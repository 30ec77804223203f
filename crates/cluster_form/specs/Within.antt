-- Numbers are within what was given: no booking is ahead of the newest generation, and no lease is kept
-- that was not drawn.
use Rattle.std.specs.Prelude.{◌≡◌, ◌≤◌, ℕ, List, slice_get, Some}
use Rattle.std.specs.List.{AllByRecursion}
use Rattle.px_ops.specs.declared.booking.Booking.{Booking}
use Rattle.px_ops.specs.declared.booking.Booking.TheVariants.{Absent, At, Doubt}
use Rattle.px_ops.specs.declared.job.Job.{Job}
use Rattle.px_cluster.specs.Book.{Replica, Repository}
use Rattle.px_cluster.specs.Core.{Core, OpenPush}

-- ---- the book

-- it is at a generation that there is, or in doubt under a lease that was drawn
abbrev pub IsWithin : (newest last : ℕ) → Booking → Type 0
IsWithin newest last Absent = Unit {0}
IsWithin newest last (At g) = g.0 ≤ newest
IsWithin newest last (Doubt lease was due) = (lease ≤ last) × (was.0 ≤ newest) × (due.0 ≤ newest)

pub record IsReplicaWithin (newest last : ℕ) (replica : Replica) : Type 0 where
  pub kept : replica.kept ≤ last
  pub booking : IsWithin newest last replica.booking

pub record IsBookWithin (repo : Repository) : Type 0 where
  pub creation : repo.creation ≤ repo.last
  pub replicas : AllByRecursion (IsReplicaWithin repo.newest repo.last) repo.replicas

-- ---- jobs and pushes

-- its repository is on record, and its generation and lease are of that
pub record IsJobWithin (books : List Repository) (job : Job) : Type 0 where
  pub book : Repository
  pub there : slice_get books job.repo.0 ≡ Some book
  pub generation : job.generation.0 ≤ book.newest
  pub lease : job.lease ≤ book.last

-- the same of a push
pub record IsPushWithin (books : List Repository) (push : OpenPush) : Type 0 where
  pub book : Repository
  pub there : slice_get books push.repo ≡ Some book
  pub begun : push.begun ≤ book.newest
  pub lease : push.lease ≤ book.last

pub record AreWithin (core : Core) : Type 0 where
  pub books : AllByRecursion IsBookWithin core.repositories
  pub jobs : AllByRecursion (IsJobWithin core.repositories) core.jobs
  pub pushes : AllByRecursion (IsPushWithin core.repositories) core.pushes
