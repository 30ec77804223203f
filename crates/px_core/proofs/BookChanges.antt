-- A repository of the book that is changed twice, and what the end of a job makes of the core.
use Rattle.std.proofs.Common.{◌≡◌, ◌∙◌, ℕ, zero, suc, List, [], ◌∷◌, Bool, true, false, Option, None, Some, refl, ap, subst, ◌==◌, set, slice_get}
use Rattle.px_base.specs.declared.ids.JobId.{JobId}
use Rattle.px_ops.specs.declared.job.Job.{Job}
use Rattle.px_ops.specs.declared.job.JobKind.{JobKind}
use Rattle.px_ops.specs.declared.job.JobKind.TheVariants.{Update, Delete}
use Rattle.px_ops.specs.declared.booking.Booking.TheVariants.{At}
use Rattle.px_ops.specs.declared.op.Op.TheVariants as op
use Rattle.txmanager.specs.Registry.{Registry}
use Rattle.px_cluster.specs.Book.{Repository, booked, with_replica_on}
use Rattle.px_cluster.specs.Core.{Core, OpenPush, job_at, repository, with_book_changed, with_repository_by}
use Rattle.px_cluster.specs.Jobs.{ended_job, failed, with_end_booked, with_job_changed, without_job, worker_refusal}
use Rattle.px_cluster.specs.Ops.{next_core}
use Rattle.cluster_form.specs.Within.{IsJobWithin}
use Rattle.cluster_form.proofs.Lists.{all_find}
use Rattle.genbook.specs.Books.{Becomes, Books, core_of}
use Rattle.replqueue.specs.Queue.{Queued, core_of as jobs_of}
use Rattle.px_core.specs.Ends.{Ends, IsOnRecord}
use Rattle.px_core.specs.Parts.{core_with}
use Rattle.px_core.specs.Sound.{IsSound}
use Rattle.px_core.proofs.Begins.{within}
use Rattle.px_core.proofs.Parts.{changed_in, same_in}
use Rattle.px_core.proofs.Queues.{queue_in}

-- ---- twice

set_twice : {A : Type 0} (xs : List A) (i : ℕ) (x y : A) → set (set xs i x) i y ≡ set xs i y
set_twice [] i x y = refl
set_twice (z ∷ zs) zero x y = refl
set_twice (z ∷ zs) (suc i) x y = ap (λ rest. z ∷ rest) (set_twice zs i x y)

pub got_set : {A : Type 0} (xs : List A) (i : ℕ) (x y : A) → slice_get xs i ≡ Some x
    → slice_get (set xs i y) i ≡ Some y
got_set [] i x y there = absurd (let none : None ≡ Some x = there in cc)
got_set (z ∷ zs) zero x y there = refl
got_set (z ∷ zs) (suc i) x y there = got_set zs i x y there

changed_twice : (core : Core) (repo : ℕ) (one other : Repository → Repository)
    → with_book_changed repo other (with_book_changed repo one core)
    ≡ with_book_changed repo (λ book. other (one book)) core
changed_twice core repo one other = by (repository core repo) refl
  where
    by : (there : Option Repository) → repository core repo ≡ there
        → with_book_changed repo other (with_repository_by there repo one core)
        ≡ with_repository_by there repo (λ book. other (one book)) core
    by None there = ap (λ (o : Option Repository). with_repository_by o repo other core) there
    by (Some book) there = ap (λ (o : Option Repository). with_repository_by o repo other
        (record core { repositories = set core.repositories repo (one book) }))
        (got_set core.repositories repo book (one book) there)
        ∙ λ i. record core {
          repositories = set_twice core.repositories repo (one book) (other (one book)) i;
        }

pub becomes_twice : (repo : ℕ) (one other : Repository → Repository) (old mid new : Books)
    → Becomes repo one old mid → Becomes repo other mid new
    → Becomes repo (λ book. other (one book)) old new
becomes_twice repo one other old mid new first then_ =
    then_ ∙ ap (with_book_changed repo other) first
    ∙ changed_twice (core_of old) repo one other

-- ---- the end of a job

module _ (old new : Books) (up : List Bool) (votes : Registry) (last : ℕ) (pushes : List OpenPush)
    (reads : List ℕ) (queue made : Queued) where
  abbrev before : Core
  before = core_with old up votes last pushes reads queue

  abbrev after_ : Core
  after_ = core_with new up votes last pushes reads made

  -- the queue without the job, or with its bad end, and the book with what is booked
  pub ended_in : (good : Bool) (job : Option Job) → Ends good job old new
      → jobs_of made ≡ ended_job good job (jobs_of queue) → after_ ≡ ended_job good job before
  ended_in good None books jobs =
      queue_in new up votes last pushes reads queue made queue.jobs queue.last jobs
      ∙ same_in old new up votes last pushes reads queue books
  ended_in true (Some job) books jobs = by job.kind books jobs
    where
      by : (kind : JobKind) → core_of new ≡ with_end_booked job kind (core_of old)
          → jobs_of made ≡ with_end_booked job kind (without_job job.number (jobs_of queue))
          → after_ ≡ with_end_booked job kind (without_job job.number before)
      by Update booked_ jobs_ =
          queue_in new up votes last pushes reads queue made
          (without_job job.number (jobs_of queue)).jobs queue.last jobs_
          ∙ ap (λ (c : Core). without_job job.number c)
          (changed_in old new up votes last pushes reads queue job.repo.0
          (with_replica_on job.target.0 (booked (At job.generation))) booked_)
          ∙ apart (repository before job.repo.0)
        where
          apart : (there : Option Repository) → without_job job.number
              (with_repository_by there job.repo.0
              (with_replica_on job.target.0 (booked (At job.generation))) before)
              ≡ with_repository_by there job.repo.0
              (with_replica_on job.target.0 (booked (At job.generation)))
              (without_job job.number before)
          apart None = refl
          apart (Some book) = refl
      by Delete booked_ jobs_ =
          queue_in new up votes last pushes reads queue made
          (without_job job.number (jobs_of queue)).jobs queue.last jobs_
          ∙ ap (λ (c : Core). without_job job.number c)
          (same_in old new up votes last pushes reads queue booked_)
  ended_in false (Some job) books jobs =
      queue_in new up votes last pushes reads queue made
      (with_job_changed job.number failed (jobs_of queue)).jobs queue.last jobs
      ∙ ap (λ (c : Core). with_job_changed job.number failed c)
      (same_in old new up votes last pushes reads queue books)

  -- where the worker is heard, that is what its end leaves
  pub ack_leads : (job : JobId) (lease : ℕ) (good : Bool) (row : Option Job)
      → row ≡ job_at before job.0 → worker_refusal job lease (job_at before job.0) ≡ None
      → Ends good row old new → jobs_of made ≡ ended_job good (job_at before job.0) (jobs_of queue)
      → after_ ≡ next_core before (op.Ack job lease good)
  ack_leads job lease good row row_is heard books jobs = rw heard (ended_in good
      (job_at before job.0) (subst (λ (o : Option Job). Ends good o old new) row_is books) jobs)

-- the repository of each job is on the book
module _ (books : Books) (up : List Bool) (votes : Registry) (last : ℕ) (pushes : List OpenPush)
    (reads : List ℕ) (queue : Queued)
    (sound : IsSound (core_with books up votes last pushes reads queue)) where
  pub on_record : (number : ℕ)
      → IsOnRecord books (job_at (core_with books up votes last pushes reads queue) number)
  on_record number = by (job_at (core_with books up votes last pushes reads queue) number) refl
    where
      by : (there : Option Job)
          → job_at (core_with books up votes last pushes reads queue) number ≡ there
          → IsOnRecord books there
      by None is = tt
      by (Some job) is =
          let within_ = (all_find (IsJobWithin books.repositories)
          (λ (j : Job). j.number.0 == number) queue.jobs job sound.form.within.jobs is).0 in
          within books.repositories job.repo.0 within_.book within_.there
