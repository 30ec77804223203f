-- Each job is for a replica of its repository, after each operation.
use Rattle.std.proofs.Common.{◌≡◌, ◌==◌, ◌-◌, ◌^◌, ◌&&◌, ℕ, not, List, Bool, true, false, if◌then◌else◌, Option, None, Some, refl, sym, ◌∙◌, ap, subst, filter, map, slice_get, take}
use Rattle.std.specs.List.{AllByRecursion}
use Rattle.px_base.specs.declared.hash.Hash.{Hash}
use Rattle.px_base.specs.declared.ids.TxId.{TxId}
use Rattle.px_base.specs.declared.phase.Phase.{Phase}
use Rattle.px_ops.specs.declared.job.Job.{Job}
use Rattle.px_ops.specs.declared.job.JobKind.{JobKind}
use Rattle.px_ops.specs.declared.job.JobKind.TheVariants.{Update, Delete}
use Rattle.px_ops.specs.declared.op.Op.{Op}
use Rattle.px_ops.specs.declared.op.Op.TheVariants as op
use Rattle.txmanager.specs.VoterCalls.{after_cast}
use Rattle.txmanager.specs.Voting.{Voting}
use Rattle.px_cluster.specs.Book.{Repository, storages_of}
use Rattle.px_cluster.specs.Casts.{booked_by, cast_on, with_cast_booked}
use Rattle.px_cluster.specs.Core.{Core, OpenPush, job_at, push_of, repository, restarted, voting, with_repository_by}
use Rattle.px_cluster.specs.Creating.{found, with_created}
use Rattle.px_cluster.specs.Ids.{repo_number}
use Rattle.px_cluster.specs.Jobs.{ended_job, failed, is_for, is_in_progress, is_stale, with_end_booked, without_job}
use Rattle.px_cluster.specs.Numbers.{is_one_of}
use Rattle.px_cluster.specs.Ops.{left_by}
use Rattle.px_cluster.specs.Plan.{all_planned, plan, with_plan}
use Rattle.px_cluster.specs.Pushes.{begun_at}
use Rattle.px_cluster.specs.Taking.{Drop, Next, PassOver, Take, Taking, dequeued, dequeued_by, next_job, taken_in}
use Rattle.cluster_form.specs.Books.{IsDense}
use Rattle.cluster_form.specs.Homes.{AreJobsHome, IsHome}
use Rattle.cluster_form.proofs.Homes.{home_again, home_left}
use Rattle.cluster_form.proofs.JobLists.{all_numbered}
use Rattle.cluster_form.proofs.Lists.{all_both, all_filter, all_got, all_map, all_such, choose}
use Rattle.cluster_form.proofs.OneOf.{all_taken}
use Rattle.cluster_form.proofs.PlannedJobs.{all_of_plan}

-- ---- what is true of the repository and target of each job stays so, whatever it is

module _ (P : ℕ → ℕ → Type 0) where
  abbrev Has : Job → Type 0
  Has job = P job.repo.0 job.target.0

  abbrev All : Core → Type 0
  All core = AllByRecursion Has core.jobs

  mapped : (test : Job → Bool) (change : Job → Job)
      → ((job : Job) → (change job).repo.0 ≡ job.repo.0)
      → ((job : Job) → (change job).target.0 ≡ job.target.0) → (jobs : List Job)
      → AllByRecursion Has jobs
      → AllByRecursion Has (map (λ job. if test job then change job else job) jobs)
  mapped test change repo target jobs all = all_map Has Has _ jobs (λ job is.
      choose Has (test job) (change job) job
      (λ holds. subst (λ t. P (change job).repo.0 t) (sym (target job))
      (subst (λ r. P r job.target.0) (sym (repo job)) is)) (λ fails. is)) all

  by_book : (core : Core) (repo : ℕ) (change : Repository → Repository)
      (there : Option Repository) → All core → All (with_repository_by there repo change core)
  by_book core repo change None all = all
  by_book core repo change (Some book) all = all

  cast_booked : (core : Core) (push : Option OpenPush) (name : List ℕ) (phase : Phase)
      (hash : Hash) (old new : Voting) → All core
      → All (with_cast_booked push name phase hash old new core)
  cast_booked core None name phase hash old new all = all
  cast_booked core (Some push) name phase hash old new all =
      by_book core push.repo (booked_by push name phase hash old new) (repository core push.repo) all

  cast : (core : Core) (tx : TxId) (name : List ℕ) (phase : Phase) (hash : Hash)
      (vote : Option Voting) → All core → All (cast_on tx name phase hash vote core)
  cast core tx name phase hash None all = all
  cast core tx name phase hash (Some old) all = cast_booked (record core { transactions = _ })
      (push_of core tx) name phase hash old (after_cast name phase hash old) all

  created : (core : Core) (there : Option ℕ) (book : Repository) → All core
      → All (with_created there book core)
  created core None book all = all
  created core (Some repo) book all = all

  begun : (core : Core) (repo : ℕ) (there : Option Repository) → All core
      → All (begun_at repo there core)
  begun core repo None all = all
  begun core repo (Some book) all = all

  taken : (core : Core) (job : Job) (source : Option ℕ) (now : ℕ) (there : Option Repository)
      → All core → All (taken_in there job source now core)
  taken core job source now None all = all
  taken core job source now (Some book) all =
      mapped (λ (x : Job). x.number.0 == job.number.0) _ (λ x. refl) (λ x. refl) core.jobs all

  dequeued_so : (core : Core) (next : Option Next) (now : ℕ) → All core
      → All (dequeued next now core)
  dequeued_so core None now all = all
  dequeued_so core (Some next) now all = by_what next.taking
    where
      by_what : (taking : Taking) → All (dequeued_by next.job taking now core)
      by_what PassOver = all
      by_what Drop = all_filter Has _ core.jobs all
      by_what (Take source) =
          taken core next.job source now (repository core next.job.repo.0) all

  ended_so : (core : Core) (good : Bool) (job : Option Job) → All core
      → All (ended_job good job core)
  ended_so core good None all = all
  ended_so core true (Some job) all = by_kind job.kind
    where
      gone : All (without_job job.number core)
      gone = all_filter Has _ core.jobs all

      by_kind : (kind : JobKind) → All (with_end_booked job kind (without_job job.number core))
      by_kind Update = by_book (without_job job.number core) job.repo.0 _
          (repository core job.repo.0) gone
      by_kind Delete = gone
  ended_so core false (Some job) all =
      mapped (λ (x : Job). x.number.0 == job.number.0) _ (λ x. refl) (λ x. refl) core.jobs all

  by_repair : (core : Core) (repo storage : ℕ) (change : Repository → Repository)
      (there : Option Repository) → All core → All (with_repository_by there repo change
      (record core {
        jobs = filter
            (λ (job : Job). not (is_for repo storage job && is_in_progress job.state)) core.jobs;
      }))
  by_repair core repo storage change there all =
      by_book _ repo change there (all_filter Has _ core.jobs all)

  planned_so : (core : Core) (only : Option ℕ) → AllByRecursion Has (all_planned core only)
      → All core → All (with_plan (plan core only) core)
  planned_so core only new all = all_both Has (filter _ core.jobs) (plan core only)
      (all_filter Has _ core.jobs all) (all_numbered Has (λ job n is. is) core.last_job
      (take (2 ^ 64 - 1 - core.last_job) (all_planned core only))
      (all_taken _ _ (all_planned core only) new))

  pub pairs_left : (core : Core) (asked : Op)
      → ((only : Option ℕ) → AllByRecursion Has (all_planned core only)) → All core
      → All (left_by core asked)
  pairs_left core (op.Admit virt name) new all = all
  pairs_left core (op.Health storage up) new all = all
  pairs_left core (op.Open threshold rounds voters) new all = all
  pairs_left core (op.Cast tx voter phase hash) new all =
      cast core tx voter phase hash (voting core tx) all
  pairs_left core (op.Withdraw tx voter) new all = all
  pairs_left core (op.Cancel tx) new all = all
  pairs_left core (op.Stop tx) new all = all
  pairs_left core (op.Collect tx voter sub) new all = all
  pairs_left core (op.Outcome tx sub) new all = all
  pairs_left core (op.Close tx) new all = all
  pairs_left core (op.Create virt path factor) new all =
      created core (found core virt path) _ all
  pairs_left core (op.Enrol repo storage lease) new all =
      by_book core repo.0 _ (repository core repo.0) all
  pairs_left core (op.Begin repo) new all = begun core repo.0 (repository core repo.0) all
  pairs_left core (op.Finish tx) new all = all
  pairs_left core (op.Dequeue target now) new all =
      dequeued_so core (next_job core target.0) now all
  pairs_left core (op.Beat job lease now) new all =
      mapped (λ (x : Job). x.number.0 == job.0) _ (λ x. refl) (λ x. refl) core.jobs all
  pairs_left core (op.Ack job lease good) new all = ended_so core good (job_at core job.0) all
  pairs_left core (op.Stale now span) new all =
      mapped (is_stale now span) failed (λ x. refl) (λ x. refl) core.jobs all
  pairs_left core (op.Reconcile only) new all =
      planned_so core (repo_number only) (new (repo_number only)) all
  pairs_left core (op.RouteRead repo) new all = all
  pairs_left core (op.SetFactor repo factor) new all =
      by_book core repo.0 _ (repository core repo.0) all
  pairs_left core (op.AcceptBegin repo storage) new all =
      by_repair core repo.0 storage.0 _ (repository core repo.0) all
  pairs_left core (op.Accept repo storage lease) new all =
      by_repair core repo.0 storage.0 _ (repository core repo.0) all
  pairs_left core (op.SettleBegin repo storage) new all =
      by_repair core repo.0 storage.0 _ (repository core repo.0) all
  pairs_left core (op.Settle repo storage lease last) new all =
      by_repair core repo.0 storage.0 _ (repository core repo.0) all
  pairs_left core (op.Booked repo) new all = all
  pairs_left core (op.Find virt path) new all = all
  pairs_left core (op.Holder repo) new all = all

-- ---- so each job is at home

pub homes_left : (core : Core) (asked : Op)
    → AllByRecursion (IsDense core.storages) core.repositories → AreJobsHome core
    → AreJobsHome (left_by core asked)
homes_left core asked dense homes = pairs_left (IsHome (left_by core asked)) core asked
    (λ only. all_of_plan core (λ (job : Job). IsHome (left_by core asked) job.repo.0 job.target.0)
    (λ repo book storage job there among new. home_left core asked job.repo.0 job.target.0 (record {
      book = book;
      there = ap (slice_get core.repositories) new.repo_ ∙ there;
      home = ap (λ n. is_one_of n (storages_of core.storages book.virt)) new.target_
          ∙ subst (λ ns. is_one_of storage ns ≡ true)
          (all_got (IsDense core.storages) core.repositories repo book dense there) among;
    })) only)
    (all_such _ _ core.jobs (λ job is. home_left core asked job.repo.0 job.target.0 is) homes)

pub homes_again : (core : Core) → AreJobsHome core → AreJobsHome (restarted core)
homes_again core homes =
    all_such _ _ core.jobs (λ job is. home_again core job.repo.0 job.target.0 is) homes
