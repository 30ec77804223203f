-- One job of the queue is read, changed or dropped.
use Rattle.std.proofs.Common.{◌≡◌, ◌-◌, ◌==◌, ℕ, List, [], ◌∷◌, true, false, None, Option, Some, refl, ap, sym, inl, inr, map, subst}
use Rattle.std.specs.Prelude.{not}
use Rattle.std.specs.List.{AllByRecursion}
use Rattle.std.proofs.lemmas.Bool.{cases_Bool}
use Rattle.px_base.specs.declared.ids.Gen.{Gen}
use Rattle.px_base.specs.declared.ids.JobId.{JobId}
use Rattle.px_base.specs.declared.ids.StorageId.{StorageId}
use Rattle.px_ops.specs.declared.job.Job.{Job}
use Rattle.px_ops.specs.declared.job.JobState.{JobState}
use Rattle.px_ops.specs.declared.job.JobState.TheVariants.{Cancelled, Completed, Dead, Failed, InProgress, Ready}
use Rattle.px_ops.specs.declared.refusal.Refusal.TheVariants.{BadState}
use Rattle.px_cluster.specs.Book.{Repository}
use Rattle.px_cluster.specs.Core.{Core, empty, job_at}
use Rattle.px_cluster.specs.Ids.{job_id}
use Rattle.px_cluster.specs.Jobs.{holds_lock, is_in_progress, is_ready, with_job_changed, without_job, worker_refusal}
use Rattle.px_cluster.specs.Taking.{as_taken}
use Rattle.cluster_form.proofs.Lists.{all_such}
use Rattle.replqueue.specs.Queue.{IsGiven, Queued, core_of, is_waiting, taken}
use Rattle.replqueue.specs.Rows.{changed_at, has_number}
use Rattle.replqueue.proofs.Orders.{all_pass, has_its_number, none_found}

-- a core with these jobs alone
abbrev pub core_with : List Job → ℕ → Core
core_with jobs last = record empty { jobs = jobs; last_job = last }

pub same_core : (jobs new : List Job) (last last_new : ℕ) → new ≡ jobs → last_new ≡ last
    → core_with new last_new ≡ core_with jobs last
same_core jobs new last last_new is number = λ i. core_with (is i) (number i)

-- ---- states

pub working_holds : (state : JobState) → is_in_progress state ≡ true → holds_lock state ≡ true
working_holds Ready is = absurd (let no : false ≡ true = is in cc)
working_holds InProgress is = refl
working_holds Completed is = absurd (let no : false ≡ true = is in cc)
working_holds Cancelled is = absurd (let no : false ≡ true = is in cc)
working_holds Failed is = absurd (let no : false ≡ true = is in cc)
working_holds Dead is = absurd (let no : false ≡ true = is in cc)

pub waiting_holds : (state : JobState) → is_waiting state ≡ true → holds_lock state ≡ true
waiting_holds Ready is = refl
waiting_holds InProgress is = refl
waiting_holds Completed is = absurd (let no : false ≡ true = is in cc)
waiting_holds Cancelled is = absurd (let no : false ≡ true = is in cc)
waiting_holds Failed is = refl
waiting_holds Dead is = absurd (let no : false ≡ true = is in cc)

pub ready_rests : {A : Type 0} (state : JobState) → is_ready state ≡ true → is_in_progress state
    ≡ true → A
ready_rests Ready ready works = absurd (let no : false ≡ true = works in cc)
ready_rests InProgress ready works = absurd (let no : false ≡ true = ready in cc)
ready_rests Completed ready works = absurd (let no : false ≡ true = ready in cc)
ready_rests Cancelled ready works = absurd (let no : false ≡ true = ready in cc)
ready_rests Failed ready works = absurd (let no : false ≡ true = ready in cc)
ready_rests Dead ready works = absurd (let no : false ≡ true = ready in cc)

-- whose worker is heard, is in progress
pub heard_works : (number : JobId) (lease : ℕ) (row : Job) → worker_refusal number lease (Some row)
    ≡ None → is_in_progress row.state ≡ true
heard_works number lease row heard = elim (cases_Bool (is_in_progress row.state)) [
  | inl t ↦ t
  | inr f ↦ absurd (let some : Some (BadState row.state) ≡ None = rw f at heard in cc)
]

-- ---- the number of a job

module _ (queue : Queued) (job : JobId) (row : Job) (found : job_at (core_of queue) job.0
    ≡ Some row) where
  pub number_is : row.number.0 ≡ job.0
  number_is = has_its_number job.0 queue.jobs row found

  pub found_itself : job_at (core_of queue) row.number.0 ≡ Some row
  found_itself = subst (λ (number : ℕ). job_at (core_of queue) number ≡ Some row) (sym number_is)
      found

  pub same_id : row.number ≡ job
  same_id = λ i. job_id (number_is i)

-- ---- where there is none

pub none_dropped : (queue : Queued) (job : JobId) → job_at (core_of queue) job.0 ≡ None
    → without_job job (core_of queue) ≡ core_of queue
none_dropped queue job none = ap (λ (jobs : List Job). core_with jobs queue.last)
    (all_pass (λ (row : Job). not (row.number.0 == job.0)) queue.jobs (all_such _ _ queue.jobs
    (λ row other. ap not other) (none_found (has_number job.0) queue.jobs none)))

pub none_changed : (queue : Queued) (job : JobId) (change : Job → Job)
    → job_at (core_of queue) job.0 ≡ None
    → with_job_changed job change (core_of queue) ≡ core_of queue
none_changed queue job change none =
    ap (λ (jobs : List Job). core_with jobs queue.last)
    (stay queue.jobs (none_found (has_number job.0) queue.jobs none))
  where
    stay : (jobs : List Job) → AllByRecursion (λ (row : Job). has_number job.0 row ≡ false) jobs
        → map (changed_at job.0 change) jobs ≡ jobs
    stay [] all = refl
    stay (row ∷ jobs) all = rw (all.0, stay jobs all.1) refl

-- ---- how a job is taken

-- by what the book gives, it is taken as the rules have it
pub taken_by_rule : (book : Repository) (from : Option ℕ) (source : Option StorageId)
    (generation : Gen) (now lease : ℕ)
    → IsGiven book from source generation lease → taken source generation now lease
    ≡ as_taken book from now
taken_by_rule book from source generation now lease given = sym (λ i. λ (job : Job). record job {
  source = given.source_is i;
  generation = given.newest_is i;
  attempts = job.attempts - 1;
  state = InProgress;
  beat = now;
  lease = given.lease_is i;
})
