-- Changes of the queue alone: beats, stale workers, bad ends, and jobs that go.
use Rattle.std.proofs.Common.{◌≡◌, ◌==◌, ℕ, Bool, if◌then◌else◌, filter, map}
use Rattle.px_base.specs.declared.ids.JobId.{JobId}
use Rattle.px_ops.specs.declared.job.Job.{Job}
use Rattle.px_ops.specs.declared.job.JobState.{JobState}
use Rattle.px_cluster.specs.Jobs.{beaten, failed, is_stale, state_after_failure, with_job_changed}
use Rattle.replica_invariant.specs.State.{Running}
use Rattle.job_events.proofs.ManyJobs.{idle_jobs_fit}
use Rattle.cluster_form.proofs.Lists.{all_filter, all_map, choose}
use Rattle.cluster_history.specs.Goes.{GoesOn, IsSound}
use Rattle.cluster_history.specs.History.{Whole}
use Rattle.cluster_history.specs.Seen.{seen_job, seen_state, state_of}
use Rattle.job_steps.specs.Jobs.{BeatGoesOn, StaleGoesOn}
use Rattle.job_steps.proofs.OnQueue.{Fits, all_fit, queue_goes, with_queue}

-- jobs that pass a test change, to what their targets may have
module _ (whole : Whole) (sound : IsSound whole) (test : Job → Bool) (change : Job → Job)
    (fits : (job : Job) → Fits whole job → Fits whole (change job)) where
  abbrev jobs : Job → Job
  jobs job = if test job then change job else job

  -- each repository goes on
  changed_goes : GoesOn whole
      (with_queue whole (map jobs whole.cluster.core.jobs) whole.cluster.core.last_job)
  changed_goes = queue_goes whole (map jobs whole.cluster.core.jobs) whole.cluster.core.last_job
      (all_map (Fits whole) (Fits whole) jobs whole.cluster.core.jobs
      (λ job is. choose (Fits whole) (test job) (change job) job (λ holds. fits job is)
      (λ fails. is))
      (all_fit whole sound))

-- a job that failed does not run
does_not_run : (job : Job) (lease : ℕ)
    → seen_state (state_after_failure job) job.lease ≡ Running lease → ⊥
does_not_run job lease = choose
    (λ (state : JobState). seen_state state job.lease ≡ Running lease → ⊥)
    (job.attempts == 0) _ _ (λ none is. cc) (λ some is. cc)

-- so its target may have it
failed_fits : (whole : Whole) (job : Job) → Fits whole job → Fits whole (failed job)
failed_fits whole job fits book known = idle_jobs_fit (state_of whole job.repo.0 book) job.target.0
    (seen_job job) (seen_state (state_after_failure job) job.lease) (does_not_run job)
    (fits book known)

-- of a beat nothing is seen
pub a_beat_goes_on : BeatGoesOn
a_beat_goes_on number lease now whole sound accepted = changed_goes whole sound
    (λ (job : Job). job.number.0 == number.0) (beaten now) (λ job fits. fits)

-- stale workers are given up
pub stale_workers_go_on : StaleGoesOn
stale_workers_go_on now span whole sound accepted =
    changed_goes whole sound (is_stale now span) failed (failed_fits whole)

-- some jobs go
pub left_goes : (whole : Whole) → IsSound whole → (test : Job → Bool) → GoesOn whole
    (with_queue whole (filter test whole.cluster.core.jobs) whole.cluster.core.last_job)
left_goes whole sound test =
    queue_goes whole (filter test whole.cluster.core.jobs) whole.cluster.core.last_job
    (all_filter (Fits whole) test whole.cluster.core.jobs (all_fit whole sound))

-- a bad end of a job
pub bad_end_goes : (whole : Whole) → IsSound whole → (number : JobId) → GoesOn whole (record whole {
  cluster = record whole.cluster { core = with_job_changed number failed whole.cluster.core };
})
bad_end_goes whole sound number = changed_goes whole sound
    (λ (job : Job). job.number.0 == number.0) failed (failed_fits whole)
