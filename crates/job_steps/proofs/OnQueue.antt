-- An event that changes the queue alone: where each job of it is one that its target may have, each
-- repository goes on by one event.
use Rattle.std.proofs.Common.{◌≡◌, ℕ, List, Option, None, Some, refl, ap, subst, find}
use Rattle.std.specs.List.{AllByRecursion}
use Rattle.std.specs.Option.{option_map}
use Rattle.px_ops.specs.declared.job.Job.{Job}
use Rattle.px_cluster.specs.Book.{Repository}
use Rattle.px_cluster.specs.Core.{repository}
use Rattle.px_cluster.specs.Jobs.{is_for}
use Rattle.replica_invariant.specs.Invariant.{Invariant}
use Rattle.replica_invariant.specs.ManyJobs.{MayHave, with_jobs}
use Rattle.replica_invariant.specs.State.{Job as SeenJob}
use Rattle.job_events.proofs.ManyJobs.{old_jobs_fit}
use Rattle.safe_states.proofs.Reached.{every_state_has_the_invariant}
use Rattle.safe_states.specs.Happens.{Queues}
use Rattle.cluster_form.proofs.JobLists.{pair_is}
use Rattle.cluster_form.proofs.Lists.{all_find, all_such, some_is}
use Rattle.cluster_history.specs.Goes.{GoesOn, IsSound}
use Rattle.cluster_history.specs.History.{Whole}
use Rattle.cluster_history.specs.Seen.{job_for, seen_job, state_of}
use Rattle.cluster_history.proofs.Frame.{once_to}
use Rattle.cluster_history.proofs.OneRepository.{each_goes}
use Rattle.job_steps.proofs.Queues.{all_found}

-- what is always so of a repository on record
pub has_invariant : (whole : Whole) → IsSound whole → (repo : ℕ) (book : Repository)
    → repository whole.cluster.core repo ≡ Some book → Invariant (state_of whole repo book)
has_invariant whole sound repo book known =
    every_state_has_the_invariant (state_of whole repo book) (sound.reached repo book known)

-- the target may have the job, where its repository is on record
abbrev pub Fits : Whole → Job → Type 0
Fits whole job = (book : Repository) → repository whole.cluster.core job.repo.0 ≡ Some book
    → MayHave (state_of whole job.repo.0 book) job.target.0 (seen_job job)

-- each job that is there fits
pub all_fit : (whole : Whole) → IsSound whole
    → AllByRecursion (Fits whole) whole.cluster.core.jobs
all_fit whole sound = all_such _ (Fits whole) whole.cluster.core.jobs
    (λ job found book known. old_jobs_fit (state_of whole job.repo.0 book) job.target.0
    (seen_job job) (has_invariant whole sound job.repo.0 book known)
    (ap (option_map seen_job) found))
    (all_found whole.cluster.core.jobs sound.form.core.jobs.order)

-- what a look-up sees
seen_is : (there : Option Job) (job : SeenJob) → option_map seen_job there ≡ Some job
    → (queued : Job) × (there ≡ Some queued) × (seen_job queued ≡ job)
seen_is None job is = absurd (let z : None ≡ Some job = is in cc)
seen_is (Some queued) job is = (queued, refl, some_is (seen_job queued) job is)

-- with another queue, and another last number of a job
abbrev pub with_queue : Whole → List Job → ℕ → Whole
with_queue whole jobs last = record whole {
  cluster = record whole.cluster {
    core = record whole.cluster.core { jobs = jobs; last_job = last };
  };
}

module _ (whole : Whole) (jobs : List Job) (last : ℕ) (fit : AllByRecursion (Fits whole) jobs) where
  abbrev queued : Whole
  queued = with_queue whole jobs last

  -- so does each job that a look-up sees
  fits : (repo target : ℕ) (book : Repository) (job : SeenJob)
      → repository whole.cluster.core repo ≡ Some book
      → job_for queued.cluster.core repo target ≡ Some job
      → MayHave (state_of whole repo book) target job
  fits repo target book job known is =
      let seen = seen_is (find (is_for repo target) jobs) job is in
      let found = all_find (Fits whole) (is_for repo target) jobs seen.0 fit seen.1 in
      let pair = pair_is repo target seen.0 found.1 in
      subst (λ y. MayHave (state_of whole repo book) target y) seen.2
      (subst (λ y. MayHave (state_of whole repo book) y (seen_job seen.0)) pair.1
      (subst (λ y. repository whole.cluster.core y ≡ Some book
      → MayHave (state_of whole y book) seen.0.target.0 (seen_job seen.0)) pair.0 (found.0 book)
      known))

  -- then each repository goes on
  pub queue_goes : GoesOn whole queued
  queue_goes = each_goes whole queued refl (λ repo book known.
      let st = state_of whole repo book in
      let jobs_of = job_for queued.cluster.core repo in
      once_to st (with_jobs st jobs_of) (state_of queued repo book) refl
      (Queues st jobs_of (λ target job is. fits repo target book job known is)))
