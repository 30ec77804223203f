-- Where jobs and leases belong: at a storage of the repository's virtual storage.
use Rattle.std.specs.Prelude.{◌≡◌, ℕ, true, Some}
use Rattle.std.specs.List.{AllByRecursion}
use Rattle.px_ops.specs.declared.job.Job.{Job}
use Rattle.px_cluster.specs.Book.{Repository, storages_of}
use Rattle.px_cluster.specs.Core.{Core, repository}
use Rattle.px_cluster.specs.Numbers.{is_one_of}

-- the repository is on record, and the storage is of its virtual storage
pub record IsHome (core : Core) (repo storage : ℕ) : Type 0 where
  pub book : Repository
  pub there : repository core repo ≡ Some book
  pub home : is_one_of storage (storages_of core.storages book.virt) ≡ true

-- each job is for a replica of its repository
abbrev pub AreJobsHome : Core → Type 0
AreJobsHome core =
    AllByRecursion (λ (job : Job). IsHome core job.repo.0 job.target.0) core.jobs
