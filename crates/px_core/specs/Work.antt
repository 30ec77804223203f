-- What becomes of the next job of a storage, where a worker asks for it.
use Rattle.std.specs.Prelude.{◌≡◌, ◌+◌, ◌⊎◌, ℕ, Bool, true, false, IsSome, Option, None, Some}
use Rattle.std.specs.Option.{option_map, option_or}
use Rattle.px_base.specs.declared.ids.JobId.{JobId}
use Rattle.px_base.specs.declared.ids.StorageId.{StorageId}
use Rattle.px_ops.specs.declared.job.Job.{Job}
use Rattle.px_ops.specs.declared.job.TakenJob.{TakenJob}
use Rattle.px_ops.specs.declared.refusal.Refusal.{Refusal}
use Rattle.px_cluster.specs.Book.{Repository}
use Rattle.px_cluster.specs.Core.{Core, name_of, repository}
use Rattle.px_cluster.specs.Ids.{gen, storage_number}
use Rattle.px_cluster.specs.Ops.{no_storage}
use Rattle.px_cluster.specs.Taking.{Drop, Next, PassOver, Take, Taking, next_job, spent_for}
use Rattle.px_core.specs.declared.work.Coming.{Coming}
use Rattle.px_core.specs.declared.work.Coming.TheVariants as coming
use Rattle.px_core.specs.declared.work.Work.{Work}

-- why nothing becomes of it: there is no such storage, or no lease is left for the job
abbrev pub dequeue_refusal : Core → ℕ → Option Refusal
dequeue_refusal core target =
    option_or (no_storage core target) (spent_for core (next_job core target))

-- ---- a job that is taken

-- the next job is this one and is taken from this source, for the newest generation of its
-- repository and under the lease after the last; nothing refuses it
pub record IsWork (core : Core) (target : ℕ) (work : Work) : Type 0 where
  pub accepted : dequeue_refusal core target ≡ None
  pub next : next_job core target
      ≡ Some (record { job = work.job; taking = Take (storage_number work.source) })
  pub target_is : work.job.target.0 ≡ target
  pub book : Repository
  pub there : repository core work.job.repo.0 ≡ Some book
  pub generation : gen book.newest ≡ work.generation
  pub lease : book.last + 1 ≡ work.lease

-- the same of a job that may not be the next one
pub record IsWorkOn (core : Core) (job : Job) (source : Option StorageId) (work : Work)
    : Type 0 where
  pub job_is : work.job ≡ job
  pub source_is : work.source ≡ source
  pub book : Repository
  pub there : repository core job.repo.0 ≡ Some book
  pub generation : gen book.newest ≡ work.generation
  pub lease : book.last + 1 ≡ work.lease

-- with names
abbrev pub work_told : Core → Work → TakenJob
work_told core work = record {
  job = work.job.number;
  kind = work.job.kind;
  repo = work.job.repo;
  target = name_of core work.job.target.0;
  source = option_map (λ (id : StorageId). name_of core id.0) work.source;
  generation = work.generation;
  lease = work.lease;
}

-- ---- all that may become of it

-- the next job is of this number, and has nothing to do any more
pub record IsDropped (core : Core) (target : ℕ) (number : JobId) : Type 0 where
  pub job : Job
  pub next : next_job core target ≡ Some (record { job = job; taking = Drop })
  pub number_is : job.number ≡ number

-- there is none, or it is dropped, or it is taken
abbrev pub Comes : Core → ℕ → Coming → Type 0
Comes core target coming.Nothing = next_job core target ≡ None
Comes core target (coming.Dropped number) = IsDropped core target number
Comes core target (coming.Taken work) = IsWork core target work

-- ---- as it is told before

-- a worker takes the job
abbrev pub is_take : Taking → Bool
is_take Drop = false
is_take PassOver = false
is_take (Take source) = true

abbrev pub is_taken : Option Next → Bool
is_taken None = false
is_taken (Some next) = is_take next.taking

-- what a worker takes next; it takes none where something refuses it, there is no job, or the job
-- is dropped
abbrev pub IsNextWork : Core → ℕ → Option Work → Type 0
IsNextWork core target None =
    IsSome (dequeue_refusal core target) ⊎ (is_taken (next_job core target) ≡ false)
IsNextWork core target (Some work) = IsWork core target work
