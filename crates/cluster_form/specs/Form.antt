-- The form of the data of a cluster.
use Rattle.px_cluster.specs.Cluster.{Cluster}
use Rattle.px_cluster.specs.Core.{Core}
use Rattle.cluster_form.specs.Books.{AreBooks}
use Rattle.cluster_form.specs.Drawn.{AreLeasesDrawn}
use Rattle.cluster_form.specs.Homes.{AreJobsHome}
use Rattle.cluster_form.specs.Jobs.{AreJobs}
use Rattle.cluster_form.specs.Routes.{AreRoutes}
use Rattle.cluster_form.specs.Tables.{AreTables}
use Rattle.cluster_form.specs.Turns.{AreTurns}
use Rattle.cluster_form.specs.Within.{AreWithin}

-- the book, the queue, and transactions and turns are as they should be, and their numbers are within
-- what was given; each job is for a replica of its repository
pub record IsFormed (core : Core) : Type 0 where
  pub tables : AreTables core
  pub books : AreBooks core
  pub jobs : AreJobs core
  pub turns : AreTurns core
  pub within : AreWithin core
  pub homes : AreJobsHome core

-- .. the ledger names only leases that were drawn, and effects of pushes and jobs go where they should
pub record HasForm (cluster : Cluster) : Type 0 where
  pub core : IsFormed cluster.core
  pub leases : AreLeasesDrawn cluster
  pub routes : AreRoutes cluster
