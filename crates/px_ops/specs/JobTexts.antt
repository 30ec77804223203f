-- The texts of jobs.
use Rattle.std.specs.Prelude.{ℕ, List, ◌++◌, codes, decimal, Option, None, Some}
use Rattle.px_base.specs.declared.ids.JobId.{JobId}
use Rattle.px_ops.specs.BookingTexts.{each_after_space}
use Rattle.px_ops.specs.declared.job.JobKind.{JobKind}
use Rattle.px_ops.specs.declared.job.JobKind.TheVariants.{Update, Delete}
use Rattle.px_ops.specs.declared.job.JobState.{JobState}
use Rattle.px_ops.specs.declared.job.JobState.TheVariants.{Ready, InProgress, Completed, Cancelled, Failed, Dead}
use Rattle.px_ops.specs.declared.job.PlannedJob.{PlannedJob}
use Rattle.px_ops.specs.declared.job.TakenJob.{TakenJob}

-- a kind of job as one word
abbrev pub kind_word : JobKind → List ℕ
kind_word Update = codes "update"
kind_word Delete = codes "delete"

-- a state as one word
abbrev pub state_word : JobState → List ℕ
state_word Ready = codes "ready"
state_word InProgress = codes "in_progress"
state_word Completed = codes "completed"
state_word Cancelled = codes "cancelled"
state_word Failed = codes "failed"
state_word Dead = codes "dead"

-- from where to where; a delete names its target alone
abbrev pub way_text : Option (List ℕ) → List ℕ → List ℕ
way_text None target = target
way_text (Some source) target = source ++ codes ">" ++ target

-- a job that was taken
abbrev pub taken_text : TakenJob → List ℕ
taken_text job = codes "job " ++ decimal job.job.0 ++ codes " " ++ kind_word job.kind
    ++ codes " " ++ decimal job.repo.0 ++ codes " " ++ way_text job.source job.target
    ++ codes " gen " ++ decimal job.generation.0 ++ codes " lease " ++ decimal job.lease

-- a job that was enqueued
abbrev pub planned_text : PlannedJob → List ℕ
planned_text job = decimal job.job.0 ++ codes ":" ++ kind_word job.kind
    ++ codes ":" ++ decimal job.repo.0 ++ codes ":" ++ way_text job.source job.target

-- jobs that were given a bad end
abbrev pub stale_text : List JobId → List ℕ
stale_text jobs = codes "stale" ++ each_after_space (λ job. decimal job.0) jobs

-- jobs that were enqueued
abbrev pub planned_jobs_text : List PlannedJob → List ℕ
planned_jobs_text jobs = codes "jobs" ++ each_after_space planned_text jobs
