-- Jobs in the queue: which hold its lock, and how they end.
use Rattle.std.specs.Prelude.{ℕ, ◌-◌, ◌==◌, ◌&&◌, ◌||◌, not, max, nat_le, Bool, true, false, if◌then◌else◌, List, [], ◌∷◌, filter, map, Option, None, Some}
use Rattle.std.specs.List.{list_all, list_any}
use Rattle.px_base.specs.declared.ids.JobId.{JobId}
use Rattle.px_ops.specs.declared.booking.Booking.TheVariants.{At}
use Rattle.px_ops.specs.declared.job.Job.{Job}
use Rattle.px_ops.specs.declared.job.JobKind.{JobKind}
use Rattle.px_ops.specs.declared.job.JobKind.TheVariants.{Update, Delete}
use Rattle.px_ops.specs.declared.job.JobState.{JobState}
use Rattle.px_ops.specs.declared.job.JobState.TheVariants.{Ready, InProgress, Completed, Failed, Dead}
use Rattle.px_ops.specs.declared.refusal.Refusal.{Refusal}
use Rattle.px_ops.specs.declared.refusal.Refusal.TheVariants as refusal
use Rattle.px_ops.specs.declared.reply.Reply.{Reply}
use Rattle.px_ops.specs.declared.reply.Reply.TheVariants as reply
use Rattle.px_cluster.specs.Book.{Replica, Repository, booked, is_newest, storages_where, with_replica_on}
use Rattle.px_cluster.specs.Core.{Core, is_current, with_book_changed}
use Rattle.px_cluster.specs.Creating.{lease_lost}
use Rattle.px_cluster.specs.Refusals.{cause, first_cause}

-- ---- states

abbrev pub is_ready : JobState → Bool
is_ready Ready = true
is_ready other = false

abbrev pub is_in_progress : JobState → Bool
is_in_progress InProgress = true
is_in_progress other = false

abbrev pub is_failed : JobState → Bool
is_failed Failed = true
is_failed other = false

abbrev pub is_dead : JobState → Bool
is_dead Dead = true
is_dead other = false

-- a job that is ready, in progress or failed holds the queue's lock of its repository and target
abbrev pub holds_lock : JobState → Bool
holds_lock state = is_ready state || is_in_progress state || is_failed state

-- ---- what jobs ask of the book

abbrev pub is_for : ℕ → ℕ → Job → Bool
is_for repo target job = (job.repo.0 == repo) && (job.target.0 == target)

-- the lock of a repository and target is held
abbrev pub is_locked : Core → ℕ → ℕ → Bool
is_locked core repo target =
    list_any (λ (job : Job). holds_lock job.state && is_for repo target job) core.jobs

-- each assigned replica is at the newest generation
abbrev pub are_assigned_newest : Repository → Bool
are_assigned_newest repo =
    list_all (λ (replica : Replica). not replica.assigned || is_newest repo replica) repo.replicas

-- what a target may be brought up to date from: the other current replicas, by number
abbrev pub sources_for : Core → Repository → ℕ → List ℕ
sources_for core repo target = storages_where
    (λ (replica : Replica). is_current core repo replica && not (replica.storage == target)) repo

-- ---- the job of a number changed, or gone

abbrev pub with_job_changed : JobId → (Job → Job) → Core → Core
with_job_changed number change core = record core {
  jobs = map (λ (job : Job). if job.number.0 == number.0 then change job else job) core.jobs;
}

abbrev pub without_job : JobId → Core → Core
without_job number core = record core {
  jobs = filter (λ (job : Job). not (job.number.0 == number.0)) core.jobs;
}

-- a running job of a repository and target goes
abbrev pub without_running : ℕ → ℕ → Core → Core
without_running repo target core = record core {
  jobs = filter (λ (job : Job). not (is_for repo target job && is_in_progress job.state)) core.jobs;
}

-- ---- beats and ends

-- only the worker that has the job's last lease is heard
abbrev pub worker_refusal : JobId → ℕ → Option Job → Option Refusal
worker_refusal number lease None = Some (refusal.UnknownJob number)
worker_refusal number lease (Some job) = first_cause (
    cause (not (is_in_progress job.state)) (refusal.BadState job.state)
    ∷ lease_lost job.lease lease ∷ [])

abbrev pub beaten : ℕ → Job → Job
beaten now job = record job { beat = max job.beat now }

-- a bad end: the job may be taken again where attempts are left
abbrev pub state_after_failure : Job → JobState
state_after_failure job = if job.attempts == 0 then Dead else Failed

abbrev pub failed : Job → Job
failed job = record job { state = state_after_failure job }

-- the good end of an update books its target at the generation of the job; that of a delete books
-- nothing, as its target was booked Absent when it was taken
abbrev pub with_end_booked : Job → JobKind → Core → Core
with_end_booked job Update core = with_book_changed job.repo.0
    (with_replica_on job.target.0 (booked (At job.generation))) core
with_end_booked job Delete core = core

abbrev pub ended_job : Bool → Option Job → Core → Core
ended_job good None core = core
ended_job true (Some job) core = with_end_booked job job.kind (without_job job.number core)
ended_job false (Some job) core = with_job_changed job.number failed core

abbrev pub end_reply : Bool → Option Job → Reply
end_reply good None = reply.Done
end_reply true (Some job) = reply.JobIs Completed
end_reply false (Some job) = reply.JobIs (state_after_failure job)

-- ---- stale workers

-- in progress, and not heard of for so long
abbrev pub is_stale : ℕ → ℕ → Job → Bool
is_stale now after job =
    is_in_progress job.state && nat_le job.beat now && nat_le after (now - job.beat)

abbrev pub stale_numbers : ℕ → ℕ → Core → List JobId
stale_numbers now after core =
    map (λ (job : Job). job.number) (filter (is_stale now after) core.jobs)

-- each of these has a bad end
abbrev pub without_stale : ℕ → ℕ → Core → Core
without_stale now after core = record core {
  jobs = map (λ (job : Job). if is_stale now after job then failed job else job) core.jobs;
}
