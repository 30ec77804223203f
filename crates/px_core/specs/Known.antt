-- Storages that there are.
use Rattle.std.specs.Prelude.{◌<◌, List, length, IfSome, Option}
use Rattle.std.specs.List.{AllByRecursion}
use Rattle.px_base.specs.declared.ids.StorageId.{StorageId}
use Rattle.px_ops.specs.declared.job.Job.{Job}
use Rattle.px_cluster.specs.Book.{Storage}

abbrev pub IsKnown : List Storage → StorageId → Type 0
IsKnown storages storage = storage.0 < length storages

abbrev pub AreKnown : List Storage → List StorageId → Type 0
AreKnown storages known =
    AllByRecursion (λ (storage : StorageId). storage.0 < length storages) known

-- ---- the storages of jobs

-- the storage, if there is one
abbrev pub IsSourceKnown : List Storage → Option StorageId → Type 0
IsSourceKnown storages source = IfSome source (IsKnown storages)

-- the target of a job, and its source, if it has one
pub record IsJobKnown (storages : List Storage) (job : Job) : Type 0 where
  pub target : IsKnown storages job.target
  pub source : IsSourceKnown storages job.source

abbrev pub AreJobsKnown : List Storage → List Job → Type 0
AreJobsKnown storages jobs = AllByRecursion (IsJobKnown storages) jobs
