-- The queue keeps its form at each operation, and at a restart.
use Rattle.std.proofs.Common.{◌≡◌, ◌==◌, ◌&&◌, ◌||◌, ℕ, not, List, Bool, true, false, if◌then◌else◌, Option, None, Some, refl, map, filter, arith}
use Rattle.std.specs.List.{AllByRecursion}
use Rattle.px_base.specs.declared.hash.Hash.{Hash}
use Rattle.px_base.specs.declared.ids.TxId.{TxId}
use Rattle.px_base.specs.declared.phase.Phase.{Phase}
use Rattle.px_ops.specs.declared.job.Job.{Job}
use Rattle.px_ops.specs.declared.job.JobKind.{JobKind}
use Rattle.px_ops.specs.declared.job.JobKind.TheVariants.{Update, Delete}
use Rattle.px_ops.specs.declared.job.JobState.{JobState}
use Rattle.px_ops.specs.declared.op.Op.{Op}
use Rattle.px_ops.specs.declared.op.Op.TheVariants as op
use Rattle.txmanager.specs.VoterCalls.{after_cast}
use Rattle.txmanager.specs.Voting.{Voting}
use Rattle.px_cluster.specs.Book.{Repository}
use Rattle.px_cluster.specs.Casts.{booked_by, cast_on, with_cast_booked}
use Rattle.px_cluster.specs.Core.{Core, OpenPush, empty, job_at, push_of, repository, restarted, voting, with_repository_by}
use Rattle.px_cluster.specs.Creating.{found, with_created}
use Rattle.px_cluster.specs.Jobs.{beaten, ended_job, failed, holds_lock, is_dead, is_for, is_in_progress, is_stale, with_end_booked, without_job}
use Rattle.px_cluster.specs.Ids.{repo_number}
use Rattle.px_cluster.specs.Ops.{left_by}
use Rattle.px_cluster.specs.Pushes.{begun_at}
use Rattle.px_cluster.specs.Taking.{Drop, Next, PassOver, Take, Taking, as_taken, dequeued, dequeued_by, next_job, taken_in}
use Rattle.cluster_form.specs.Books.{IsDense}
use Rattle.cluster_form.specs.Jobs.{AreJobs, AreRows, IsRow}
use Rattle.cluster_form.proofs.JobLists.{LeavesJob, order_filtered, order_mapped}
use Rattle.cluster_form.proofs.Lists.{all_filter, all_map, choose, if_kept}
use Rattle.cluster_form.proofs.PlanComes.{rows_planned}

-- ---- a change of each job

-- it keeps number, repository and target, and leaves no job at an end
pub record KeepsRow (change : Job → Job) : Type 0 where
  pub leaves : LeavesJob change
  pub queued : (job : Job) → (holds_lock job.state || is_dead job.state) ≡ true
      → (holds_lock (change job).state || is_dead (change job).state) ≡ true

rows_mapped : (change : Job → Job) → KeepsRow change → (last : ℕ) (jobs : List Job)
    → AreRows last jobs → AreRows last (map change jobs)
rows_mapped change keeps last jobs rows = record {
  order = order_mapped change keeps.leaves jobs rows.order;
  each = all_map (IsRow last) (IsRow last) change jobs (λ job row. record {
    given = (let same = keeps.leaves.number job in let given = row.given in omega (arith, same, given));
    queued = keeps.queued job row.queued;
  }) rows.each;
}

where_passes : (test : Job → Bool) (change : Job → Job) → KeepsRow change
    → KeepsRow (λ job. if test job then change job else job)
where_passes test change keeps = record {
  leaves = record {
    number = λ job. if_kept (λ (x : Job). x.number.0) (test job) (change job) job
        (keeps.leaves.number job);
    repo = λ job. if_kept (λ (x : Job). x.repo.0) (test job) (change job) job
        (keeps.leaves.repo job);
    target = λ job. if_kept (λ (x : Job). x.target.0) (test job) (change job) job
        (keeps.leaves.target job);
  };
  queued = λ job is. choose (λ (x : Job). (holds_lock x.state || is_dead x.state) ≡ true)
      (test job) (change job) job (λ holds. keeps.queued job is) (λ fails. is);
}

plain : (change : Job → Job) → ((job : Job) → (change job).number.0 ≡ job.number.0)
    → ((job : Job) → (change job).repo.0 ≡ job.repo.0)
    → ((job : Job) → (change job).target.0 ≡ job.target.0)
    → ((job : Job) → (holds_lock job.state || is_dead job.state) ≡ true
    → (holds_lock (change job).state || is_dead (change job).state) ≡ true) → KeepsRow change
plain change number repo target queued = record {
  leaves = record { number = number; repo = repo; target = target };
  queued = queued;
}

keeps_beaten : (now : ℕ) → KeepsRow (beaten now)
keeps_beaten now = plain _ (λ job. refl) (λ job. refl) (λ job. refl) (λ job is. is)

keeps_failed : KeepsRow failed
keeps_failed = plain _ (λ job. refl) (λ job. refl) (λ job. refl)
    (λ job is. choose (λ (state : JobState). (holds_lock state || is_dead state) ≡ true)
    (job.attempts == 0) _ _ (λ none. refl) (λ some. refl))

keeps_taken : (book : Repository) (source : Option ℕ) (now : ℕ) → KeepsRow (as_taken book source now)
keeps_taken book source now =
    plain _ (λ job. refl) (λ job. refl) (λ job. refl) (λ job is. refl)

-- ---- some jobs go

rows_filtered : (test : Job → Bool) (last : ℕ) (jobs : List Job) → AreRows last jobs
    → AreRows last (filter test jobs)
rows_filtered test last jobs rows = record {
  order = order_filtered test jobs rows.order;
  each = all_filter (IsRow last) test jobs rows.each;
}

-- ---- each operation

-- what changes books leaves the jobs
by_book : (core : Core) (repo : ℕ) (change : Repository → Repository) (there : Option Repository)
    → AreJobs core → AreJobs (with_repository_by there repo change core)
by_book core repo change None rows = rows
by_book core repo change (Some book) rows = rows

cast_booked : (core : Core) (push : Option OpenPush) (name : List ℕ) (phase : Phase) (hash : Hash)
    (old new : Voting) → AreJobs core
    → AreJobs (with_cast_booked push name phase hash old new core)
cast_booked core None name phase hash old new rows = rows
cast_booked core (Some push) name phase hash old new rows =
    by_book core push.repo (booked_by push name phase hash old new) (repository core push.repo) rows

cast : (core : Core) (tx : TxId) (name : List ℕ) (phase : Phase) (hash : Hash)
    (vote : Option Voting) → AreJobs core → AreJobs (cast_on tx name phase hash vote core)
cast core tx name phase hash None rows = rows
cast core tx name phase hash (Some old) rows = cast_booked (record core { transactions = _ })
    (push_of core tx) name phase hash old (after_cast name phase hash old) rows

created : (core : Core) (there : Option ℕ) (book : Repository) → AreJobs core
    → AreJobs (with_created there book core)
created core None book rows = rows
created core (Some repo) book rows = rows

begun : (core : Core) (repo : ℕ) (there : Option Repository) → AreJobs core
    → AreJobs (begun_at repo there core)
begun core repo None rows = rows
begun core repo (Some book) rows = rows

taken : (core : Core) (job : Job) (source : Option ℕ) (now : ℕ) (there : Option Repository)
    → AreJobs core → AreJobs (taken_in there job source now core)
taken core job source now None rows = rows
taken core job source now (Some book) rows = rows_mapped _
    (where_passes (λ (x : Job). x.number.0 == job.number.0) _ (keeps_taken book source now))
    core.last_job core.jobs rows

dequeued_so : (core : Core) (next : Option Next) (now : ℕ) → AreJobs core
    → AreJobs (dequeued next now core)
dequeued_so core None now rows = rows
dequeued_so core (Some next) now rows = by_what next.taking
  where
    by_what : (taking : Taking) → AreJobs (dequeued_by next.job taking now core)
    by_what PassOver = rows
    by_what Drop = rows_filtered _ core.last_job core.jobs rows
    by_what (Take source) =
        taken core next.job source now (repository core next.job.repo.0) rows

ended_so : (core : Core) (good : Bool) (job : Option Job) → AreJobs core
    → AreJobs (ended_job good job core)
ended_so core good None rows = rows
ended_so core true (Some job) rows = by_kind job.kind
  where
    gone : AreJobs (without_job job.number core)
    gone = rows_filtered _ core.last_job core.jobs rows

    by_kind : (kind : JobKind) → AreJobs (with_end_booked job kind (without_job job.number core))
    by_kind Update = by_book (without_job job.number core) job.repo.0 _
        (repository core job.repo.0) gone
    by_kind Delete = gone
ended_so core false (Some job) rows = rows_mapped _
    (where_passes (λ (x : Job). x.number.0 == job.number.0) failed keeps_failed)
    core.last_job core.jobs rows

-- a running job goes, and a book changes
by_repair : (core : Core) (repo storage : ℕ) (change : Repository → Repository)
    (there : Option Repository) → AreJobs core → AreJobs (with_repository_by there repo change
    (record core {
      jobs = filter
          (λ (job : Job). not (is_for repo storage job && is_in_progress job.state)) core.jobs;
    }))
by_repair core repo storage change there rows = by_book _ repo change there
    (rows_filtered _ core.last_job core.jobs rows)

pub jobs_left : (core : Core) (asked : Op)
    → AllByRecursion (IsDense core.storages) core.repositories → AreJobs core
    → AreJobs (left_by core asked)
jobs_left core (op.Admit virt name) dense rows = rows
jobs_left core (op.Health storage up) dense rows = rows
jobs_left core (op.Open threshold rounds voters) dense rows = rows
jobs_left core (op.Cast tx voter phase hash) dense rows =
    cast core tx voter phase hash (voting core tx) rows
jobs_left core (op.Withdraw tx voter) dense rows = rows
jobs_left core (op.Cancel tx) dense rows = rows
jobs_left core (op.Stop tx) dense rows = rows
jobs_left core (op.Collect tx voter sub) dense rows = rows
jobs_left core (op.Outcome tx sub) dense rows = rows
jobs_left core (op.Close tx) dense rows = rows
jobs_left core (op.Create virt path factor) dense rows =
    created core (found core virt path) _ rows
jobs_left core (op.Enrol repo storage lease) dense rows =
    by_book core repo.0 _ (repository core repo.0) rows
jobs_left core (op.Begin repo) dense rows = begun core repo.0 (repository core repo.0) rows
jobs_left core (op.Finish tx) dense rows = rows
jobs_left core (op.Dequeue target now) dense rows =
    dequeued_so core (next_job core target.0) now rows
jobs_left core (op.Beat job lease now) dense rows = rows_mapped _
    (where_passes (λ (x : Job). x.number.0 == job.0) (beaten now) (keeps_beaten now))
    core.last_job core.jobs rows
jobs_left core (op.Ack job lease good) dense rows = ended_so core good (job_at core job.0) rows
jobs_left core (op.Stale now span) dense rows = rows_mapped _
    (where_passes (is_stale now span) failed keeps_failed) core.last_job core.jobs rows
jobs_left core (op.Reconcile only) dense rows =
    rows_planned core (repo_number only) dense rows
jobs_left core (op.RouteRead repo) dense rows = rows
jobs_left core (op.SetFactor repo factor) dense rows =
    by_book core repo.0 _ (repository core repo.0) rows
jobs_left core (op.AcceptBegin repo storage) dense rows =
    by_repair core repo.0 storage.0 _ (repository core repo.0) rows
jobs_left core (op.Accept repo storage lease) dense rows =
    by_repair core repo.0 storage.0 _ (repository core repo.0) rows
jobs_left core (op.SettleBegin repo storage) dense rows =
    by_repair core repo.0 storage.0 _ (repository core repo.0) rows
jobs_left core (op.Settle repo storage lease last) dense rows =
    by_repair core repo.0 storage.0 _ (repository core repo.0) rows
jobs_left core (op.Booked repo) dense rows = rows
jobs_left core (op.Find virt path) dense rows = rows
jobs_left core (op.Holder repo) dense rows = rows

pub jobs_again : (core : Core) → AreJobs core → AreJobs (restarted core)
jobs_again core rows = rows

pub no_jobs : AreJobs empty
no_jobs = record { order = tt; each = tt }
