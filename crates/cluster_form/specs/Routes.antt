-- Where the effects of pushes and jobs go: each transaction of a push that ever began leads to a lease
-- that was drawn for it alone, and each job that was ever taken to a replica.
use Rattle.std.specs.Prelude.{◌≡◌, ◌≤◌, ℕ, Option, Some}
use Rattle.std.specs.List.{AllByRecursion}
use Rattle.px_cluster.specs.Book.{Repository}
use Rattle.px_cluster.specs.Cluster.{Cluster, Destination}
use Rattle.px_cluster.specs.Core.{Core, OpenPush, repository}
use Rattle.cluster_form.specs.Homes.{IsHome}

-- the transaction was given, and the lease was drawn in a repository on record
pub record IsPushRoute (core : Core) (tx : ℕ) (to : Destination) : Type 0 where
  pub given : tx ≤ core.last_tx
  pub book : Repository
  pub there : repository core to.repo ≡ Some book
  pub drawn : to.number ≤ book.last

abbrev pub goes_to : OpenPush → Destination
goes_to push = record { repo = push.repo; number = push.lease }

pub record ArePushRoutes (core : Core) (pushed : ℕ → Option Destination) : Type 0 where
  pub each : (tx : ℕ) (to : Destination) → pushed tx ≡ Some to → IsPushRoute core tx to
  -- two transactions have two leases
  pub apart : (one other : ℕ) (a b : Destination) → pushed one ≡ Some a → pushed other ≡ Some b
      → a.repo ≡ b.repo → a.number ≡ b.number → one ≡ other
  -- that of an open push leads to its own
  pub open_ : AllByRecursion (λ (push : OpenPush). pushed push.tx.0 ≡ Some (goes_to push))
      core.pushes

-- the job was given a number, and its target is of the repository's virtual storage
pub record IsJobRoute (core : Core) (job : ℕ) (to : Destination) : Type 0 where
  pub given : job ≤ core.last_job
  pub home : IsHome core to.repo to.number

abbrev pub AreJobRoutes : Core → (ℕ → Option Destination) → Type 0
AreJobRoutes core worked = (job : ℕ) (to : Destination) → worked job ≡ Some to
    → IsJobRoute core job to

pub record AreRoutes (cluster : Cluster) : Type 0 where
  pub pushes : ArePushRoutes cluster.core cluster.pushed
  pub jobs : AreJobRoutes cluster.core cluster.worked
