-- The plan of the reconciler: a job for each replica that lags behind or is one too many.
use Rattle.std.specs.Prelude.{ℕ, ◌+◌, ◌-◌, ◌^◌, ◌&&◌, ◌||◌, not, Bool, if◌then◌else◌, List, [], ◌∷◌, ◌++◌, filter, flat_map, length, take, Option, None, Some}
use Rattle.std.specs.List.{list_any}
use Rattle.std.specs.Option.{option_map}
use Rattle.px_base.specs.declared.ids.StorageId.{StorageId}
use Rattle.px_ops.specs.declared.job.Job.{Job}
use Rattle.px_ops.specs.declared.job.JobKind.{JobKind}
use Rattle.px_ops.specs.declared.job.JobKind.TheVariants.{Update, Delete}
use Rattle.px_ops.specs.declared.job.JobState.TheVariants.{Ready}
use Rattle.px_ops.specs.declared.job.PlannedJob.{PlannedJob}
use Rattle.px_cluster.specs.Book.{Replica, Repository, is_absent, is_newest}
use Rattle.px_cluster.specs.Core.{Core, is_in_push, is_up, name_of, repository}
use Rattle.px_cluster.specs.Ids.{gen, job_id, repo_id, storage_id}
use Rattle.px_cluster.specs.Jobs.{are_assigned_newest, is_dead, is_for, is_locked, sources_for}
use Rattle.px_cluster.specs.Numbers.{first_of}

-- a new job is ready, for the newest generation, and may be taken three times; it has no number yet
abbrev pub new_job : JobKind → ℕ → Repository → ℕ → Option ℕ → Job
new_job kind repo book target source = record {
  number = job_id 0;
  kind = kind;
  repo = repo_id repo;
  target = storage_id target;
  source = option_map storage_id source;
  generation = gen book.newest;
  attempts = 3;
  state = Ready;
  beat = 0;
  lease = 0;
}

-- an update from a source, where there is one
abbrev pub update_from : Option ℕ → ℕ → Repository → ℕ → List Job
update_from None repo book target = []
update_from (Some source) repo book target = new_job Update repo book target (Some source) ∷ []

-- an assigned replica that is not at the newest generation is brought up to date; one that is not
-- assigned is deleted once each assigned one is at the newest generation
abbrev pub wanted_at : Core → ℕ → Repository → Replica → List Job
wanted_at core repo book replica =
    if replica.assigned
    then (if is_newest book replica then []
    else update_from (first_of (sources_for core book replica.storage)) repo book replica.storage)
    else (if is_absent replica.booking || not (are_assigned_newest book) then []
    else new_job Delete repo book replica.storage None ∷ [])

-- a job is made for a storage that is up, has none yet, and is no member of the open push
abbrev pub planned_at : Core → ℕ → Repository → Replica → List Job
planned_at core repo book replica =
    if is_up core replica.storage && not (is_locked core repo replica.storage)
    && not (is_in_push core repo replica.storage)
    then wanted_at core repo book replica
    else []

-- of each replica of a repository, by the number of its storage
abbrev pub planned_for : Core → ℕ → Repository → List Job
planned_for core repo book = flat_map (planned_at core repo book) book.replicas

-- of each repository, by number
abbrev pub planned_from : Core → ℕ → List Repository → List Job
planned_from core repo [] = []
planned_from core repo (book ∷ books) =
    planned_for core repo book ++ planned_from core (repo + 1) books

abbrev pub planned_in : Core → ℕ → Option Repository → List Job
planned_in core repo None = []
planned_in core repo (Some book) = planned_for core repo book

-- of one repository, or of all
abbrev pub all_planned : Core → Option ℕ → List Job
all_planned core None = planned_from core 0 core.repositories
all_planned core (Some repo) = planned_in core repo (repository core repo)

-- the jobs with their numbers, from the next one on
abbrev pub numbered : ℕ → List Job → List Job
numbered last [] = []
numbered last (job ∷ jobs) =
    record job { number = job_id (last + 1) } ∷ numbered (last + 1) jobs

-- the plan is cut where the numbers of jobs end, at 2^64 - 1
abbrev pub plan : Core → Option ℕ → List Job
plan core only =
    numbered core.last_job (take (2 ^ 64 - 1 - core.last_job) (all_planned core only))

abbrev pub is_replaced_by : List Job → Job → Bool
is_replaced_by jobs old = list_any (λ (job : Job). is_for job.repo.0 job.target.0 old) jobs

-- a dead job goes where a new one of its repository and target comes
abbrev pub with_plan : List Job → Core → Core
with_plan jobs core = record core {
  jobs = filter (λ (old : Job). not (is_dead old.state && is_replaced_by jobs old)) core.jobs ++ jobs;
  last_job = core.last_job + length jobs;
}

-- a job of the plan, with names
abbrev pub told_of : Core → Job → PlannedJob
told_of core job = record {
  job = job.number;
  kind = job.kind;
  repo = job.repo;
  target = name_of core job.target.0;
  source = option_map (λ (id : StorageId). name_of core id.0) job.source;
}
