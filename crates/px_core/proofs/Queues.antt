-- What is asked of the book and the queue together is what is asked of the core, and a change of
-- the queue is that change of the core.
use Rattle.std.specs.declared.alloc.AllocError.{AllocError}
use Rattle.std.proofs.Common.{◌≡◌, ◌-◌, ◌^◌, ◌+◌, ◌++◌, ℕ, List, [], ◌∷◌, Bool, if◌then◌else◌, Option, None, Some, Result, Ok, Err, IfErr, OnErr, OnOk, refl, sym, ap, subst, length, take}
use Rattle.px_base.specs.declared.ids.JobId.{JobId}
use Rattle.px_ops.specs.declared.job.Job.{Job}
use Rattle.px_ops.specs.declared.job.JobKind.{JobKind}
use Rattle.px_ops.specs.declared.job.JobKind.TheVariants.{Update, Delete}
use Rattle.px_ops.specs.declared.refusal.Refusal.{Refusal}
use Rattle.txmanager.specs.Registry.{Registry}
use Rattle.px_cluster.specs.Book.{Repository}
use Rattle.px_cluster.specs.Core.{Core, OpenPush, empty, repository}
use Rattle.px_cluster.specs.Jobs.{beaten, with_job_changed, without_stale}
use Rattle.px_cluster.specs.Ops.{unless_refused}
use Rattle.px_cluster.specs.Plan.{all_planned, numbered, plan, planned_for, planned_from, planned_in, with_plan}
use Rattle.px_cluster.specs.Taking.{Taking, PassOver, may_be_taken, next_among, or_later, taking, taking_by, taking_in}
use Rattle.genbook.specs.Books.{Books}
use Rattle.replqueue.specs.Queue.{Queued, core_of}
use Rattle.px_core.specs.Parts.{core_with}

module _ (books : Books) (up : List Bool) (transactions : Registry) (last : ℕ)
    (pushes : List OpenPush) (reads : List ℕ) (queue : Queued) where
  abbrev core : Core
  core = core_with books up transactions last pushes reads queue

  -- what is known beside the queue
  abbrev beside : Core
  beside = record empty {
    storages = books.storages;
    repositories = books.repositories;
    pushes = pushes;
    health = up;
  }

  -- .. and with its jobs
  abbrev queued : Core
  queued = record beside { jobs = queue.jobs; last_job = queue.last }

  -- ---- the next job

  taking_by_same : (book : Repository) (job : Job) (kind : JobKind)
      → taking_by beside book job kind ≡ taking_by core book job kind
  taking_by_same book job Update = refl
  taking_by_same book job Delete = refl

  taking_in_same : (there : Option Repository) (job : Job)
      → taking_in beside there job ≡ taking_in core there job
  taking_in_same None job = refl
  taking_in_same (Some book) job = taking_by_same book job job.kind

  taking_same : (target : ℕ) (job : Job) → taking beside target job ≡ taking core target job
  taking_same target job = ap (λ (then_ : Taking).
      if may_be_taken core target job then then_ else PassOver)
      (taking_in_same (repository core job.repo.0) job)

  pub next_same : (target : ℕ) (jobs : List Job)
      → next_among beside target jobs ≡ next_among core target jobs
  next_same target [] = refl
  next_same target (job ∷ jobs) =
      λ i. or_later job (taking_same target job i) (next_same target jobs i)

  -- ---- the plan

  planned_from_same : (repo : ℕ) (list : List Repository)
      → planned_from queued repo list ≡ planned_from core repo list
  planned_from_same repo [] = refl
  planned_from_same repo (book ∷ list) =
      ap (λ (jobs : List Job). planned_for core repo book ++ jobs)
      (planned_from_same (repo + 1) list)

  planned_in_same : (repo : ℕ) (there : Option Repository)
      → planned_in queued repo there ≡ planned_in core repo there
  planned_in_same repo None = refl
  planned_in_same repo (Some book) = refl

  all_same : (only : Option ℕ) → all_planned queued only ≡ all_planned core only
  all_same None = planned_from_same 0 books.repositories
  all_same (Some repo) = planned_in_same repo (repository core repo)

  pub plan_same : (only : Option ℕ) → plan queued only ≡ plan core only
  plan_same only = ap (λ (jobs : List Job).
      numbered queue.last (take (2 ^ 64 - 1 - queue.last) jobs)) (all_same only)

-- ---- a change of the queue

module _ (books : Books) (up : List Bool) (transactions : Registry) (last : ℕ)
    (pushes : List OpenPush) (reads : List ℕ) (old new : Queued) where
  -- it has these jobs, and this is the last number that was given
  pub queue_in : (jobs : List Job) (number : ℕ)
      → core_of new ≡ record empty { jobs = jobs; last_job = number }
      → core_with books up transactions last pushes reads new
      ≡ record (core_with books up transactions last pushes reads old) {
        jobs = jobs;
        last_job = number;
      }
  queue_in jobs number is =
      let jobs_are : new.jobs ≡ jobs = ap (λ (c : Core). c.jobs) is in
      let last_is : new.last ≡ number = ap (λ (c : Core). c.last_job) is in
      λ i. record (core_with books up transactions last pushes reads old) {
        jobs = jobs_are i;
        last_job = last_is i;
      }

  -- nothing is seen of it
  pub same_queue : core_of new ≡ core_of old → core_with books up transactions last pushes reads new
      ≡ core_with books up transactions last pushes reads old
  same_queue is = queue_in old.jobs old.last is

  -- a beat, or why there is none
  pub beat_leads : (job : JobId) (now : ℕ) (cause : Option Refusal)
      (result : Result (Unit {0}) Refusal)
      → OnOk result (core_of new ≡ with_job_changed job (beaten now) (core_of old))
      → OnOk result (cause ≡ None) → IfErr result (λ why. cause ≡ Some why)
      → OnErr result (new ≡ old) → core_with books up transactions last pushes reads new
      ≡ unless_refused cause (core_with books up transactions last pushes reads old)
      (with_job_changed job (beaten now) (core_with books up transactions last pushes reads old))
  beat_leads job now cause (Ok done) makes none refused same =
      rw none (queue_in (with_job_changed job (beaten now) (core_of old)).jobs old.last makes)
  beat_leads job now cause (Err why) makes none refused same =
      rw refused (same_queue (ap core_of same))

  -- bad ends of stale workers
  pub stale_in : (now span : ℕ) → core_of new ≡ without_stale now span (core_of old)
      → core_with books up transactions last pushes reads new
      ≡ without_stale now span (core_with books up transactions last pushes reads old)
  stale_in now span is = queue_in (without_stale now span (core_of old)).jobs old.last is

  -- a plan
  pub plan_in : (jobs : List Job) → core_of new ≡ with_plan jobs (core_of old)
      → core_with books up transactions last pushes reads new
      ≡ with_plan jobs (core_with books up transactions last pushes reads old)
  plan_in jobs is = queue_in (with_plan jobs (core_of old)).jobs (old.last + length jobs) is

  -- what is so before, and would be so after them, is so where they were asked for
  pub stale_leads : (now span : ℕ) (P : Core → Type 0) (result : Result (List JobId) AllocError)
      → OnOk result (core_of new ≡ without_stale now span (core_of old))
      → OnErr result (new ≡ old) → P (core_with books up transactions last pushes reads old)
      → P (without_stale now span (core_with books up transactions last pushes reads old))
      → P (core_with books up transactions last pushes reads new)
  stale_leads now span P (Ok jobs) is same before left = subst P (sym (stale_in now span is)) left
  stale_leads now span P (Err wants) is same before left =
      subst P (sym (same_queue (ap core_of same))) before
