-- The numbers of jobs and pushes stay within what was given, at each operation.
use Rattle.std.proofs.Common.{◌≡◌, ◌==◌, ℕ, not, List, [], ◌∷◌, ◌++◌, Bool, true, false, Option, None, Some, refl, filter, set, ◌&&◌, arith}
use Rattle.px_base.specs.declared.hash.Hash.{Hash}
use Rattle.px_base.specs.declared.ids.TxId.{TxId}
use Rattle.px_base.specs.declared.phase.Phase.{Phase}
use Rattle.px_ops.specs.declared.job.Job.{Job}
use Rattle.px_ops.specs.declared.job.JobKind.{JobKind}
use Rattle.px_ops.specs.declared.job.JobKind.TheVariants.{Update, Delete}
use Rattle.px_ops.specs.declared.op.Op.{Op}
use Rattle.px_ops.specs.declared.op.Op.TheVariants as op
use Rattle.txmanager.specs.VoterCalls.{after_cast}
use Rattle.txmanager.specs.Voting.{Voting}
use Rattle.px_cluster.proofs.Growing.{left}
use Rattle.px_cluster.specs.Book.{Repository}
use Rattle.px_cluster.specs.Casts.{booked_by, cast_on, with_cast_booked}
use Rattle.px_cluster.specs.Core.{Core, OpenPush, job_at, push_of, repository, voting, with_repository_by}
use Rattle.px_cluster.specs.Creating.{found, with_created}
use Rattle.px_cluster.specs.Ids.{repo_number}
use Rattle.px_cluster.specs.Jobs.{beaten, ended_job, failed, is_for, is_in_progress, is_stale, with_end_booked, without_job}
use Rattle.px_cluster.specs.Ops.{left_by}
use Rattle.px_cluster.specs.Pushes.{beginning, begun_at, drawn_for_members}
use Rattle.px_cluster.specs.Taking.{Drop, Next, PassOver, Take, Taking, book_as_taken, dequeued, dequeued_by, next_job, taken_in}
use Rattle.cluster_form.specs.Jobs.{AreInOrder}
use Rattle.cluster_form.specs.Within.{IsJobWithin, IsPushWithin}
use Rattle.cluster_form.proofs.Among.{IsAmong, next_is}
use Rattle.cluster_form.proofs.Lists.{all_both, all_filter}
use Rattle.cluster_form.proofs.WithinLists.{Later, RowsWithin, got_set, jobs_mapped, jobs_planned, jobs_taken, leaves_beaten, leaves_failed, pushes_mapped, with_later}

-- ---- where the book or a job changed

by_book : (core : Core) (repo : ℕ) (change : Repository → Repository) (there : Option Repository)
    → Later core (with_repository_by there repo change core) → RowsWithin core
    → RowsWithin (with_repository_by there repo change core)
by_book core repo change None are rows = rows
by_book core repo change (Some book) are rows =
    with_later core (set core.repositories repo (change book)) are rows

cast_booked : (core : Core) (push : Option OpenPush) (name : List ℕ) (phase : Phase) (hash : Hash)
    (old new : Voting) → Later core (with_cast_booked push name phase hash old new core)
    → RowsWithin core → RowsWithin (with_cast_booked push name phase hash old new core)
cast_booked core None name phase hash old new are rows = rows
cast_booked core (Some push) name phase hash old new are rows =
    by_book core push.repo (booked_by push name phase hash old new) (repository core push.repo) are
    rows

cast : (core : Core) (tx : TxId) (name : List ℕ) (phase : Phase) (hash : Hash)
    (vote : Option Voting) → Later core (cast_on tx name phase hash vote core) → RowsWithin core
    → RowsWithin (cast_on tx name phase hash vote core)
cast core tx name phase hash None are rows = rows
cast core tx name phase hash (Some old) are rows = cast_booked (record core { transactions = _ })
    (push_of core tx) name phase hash old (after_cast name phase hash old) are rows

created : (core : Core) (there : Option ℕ) (book : Repository)
    → Later core (with_created there book core) → RowsWithin core
    → RowsWithin (with_created there book core)
created core None book are rows = with_later core (core.repositories ++ book ∷ []) are rows
created core (Some repo) book are rows =
    with_later core (set core.repositories repo book) are rows

taken : (core : Core) (job : Job) (source : Option ℕ) (now : ℕ) (there : Option Repository)
    → repository core job.repo.0 ≡ there → AreInOrder core.jobs → IsAmong job core.jobs
    → Later core (taken_in there job source now core) → RowsWithin core
    → RowsWithin (taken_in there job source now core)
taken core job source now None is order among are rows = rows
taken core job source now (Some book) is order among are rows =
    let later = with_later core
    (set core.repositories job.repo.0 (book_as_taken job job.kind book)) are rows in
    (jobs_taken core job source now book is order among later.0, later.1)

dequeued_so : (core : Core) (next : Option Next) (now : ℕ) → AreInOrder core.jobs
    → ((job : Next) → next ≡ Some job → IsAmong job.job core.jobs)
    → Later core (dequeued next now core) → RowsWithin core → RowsWithin (dequeued next now core)
dequeued_so core None now order among are rows = rows
dequeued_so core (Some next) now order among are rows = by_what next.taking are
  where
    by_what : (taking : Taking) → Later core (dequeued_by next.job taking now core)
        → RowsWithin (dequeued_by next.job taking now core)
    by_what PassOver are = rows
    by_what Drop are = (all_filter (IsJobWithin core.repositories) _ core.jobs rows.0, rows.1)
    by_what (Take source) are = taken core next.job source now
        (repository core next.job.repo.0) refl order (among next refl) are rows

ended_so : (core : Core) (good : Bool) (job : Option Job)
    → Later core (ended_job good job core) → RowsWithin core
    → RowsWithin (ended_job good job core)
ended_so core good None are rows = rows
ended_so core true (Some job) are rows = by_kind job.kind are
  where
    gone : RowsWithin (without_job job.number core)
    gone = (all_filter (IsJobWithin core.repositories) _ core.jobs rows.0, rows.1)

    by_kind : (kind : JobKind)
        → Later core (with_end_booked job kind (without_job job.number core))
        → RowsWithin (with_end_booked job kind (without_job job.number core))
    by_kind Update are = by_book (without_job job.number core) job.repo.0 _
        (repository core job.repo.0) are gone
    by_kind Delete are = gone
ended_so core false (Some job) are rows = (
  jobs_mapped core.repositories (λ (x : Job). x.number.0 == job.number.0) failed leaves_failed
      core.jobs rows.0,
  rows.1,
)

by_repair : (core : Core) (repo storage : ℕ) (change : Repository → Repository)
    (there : Option Repository) → let without : Core = record core {
      jobs = filter
          (λ (job : Job). not (is_for repo storage job && is_in_progress job.state)) core.jobs;
    } in Later core (with_repository_by there repo change without) → RowsWithin core
    → RowsWithin (with_repository_by there repo change without)
by_repair core repo storage change there are rows = by_book _ repo change there are
    (all_filter (IsJobWithin core.repositories) _ core.jobs rows.0, rows.1)

begun : (core : Core) (repo : ℕ) (there : Option Repository) → repository core repo ≡ there
    → Later core (begun_at repo there core) → RowsWithin core
    → RowsWithin (begun_at repo there core)
begun core repo None is are rows = rows
begun core repo (Some book) is are rows =
    let push = beginning core repo book in
    let books = set core.repositories repo (drawn_for_members push book) in
    let later = with_later core books are rows in (
      later.0,
      all_both (IsPushWithin books) core.pushes (push ∷ []) later.1 (
        record {
          book = drawn_for_members push book;
          there = got_set core.repositories repo book (drawn_for_members push book) is;
          begun = omega arith;
          lease = omega arith;
        },
        tt,
      ),
    )

-- ---- each operation

pub rows_within : (core : Core) (asked : Op) → AreInOrder core.jobs → RowsWithin core
    → RowsWithin (left_by core asked)
rows_within core (op.Admit virt name) order rows =
    with_later core _ (left core (op.Admit virt name)).0 rows
rows_within core (op.Health storage up) order rows = rows
rows_within core (op.Open threshold rounds voters) order rows = rows
rows_within core (op.Cast tx voter phase hash) order rows =
    cast core tx voter phase hash (voting core tx) (left core (op.Cast tx voter phase hash)).0 rows
rows_within core (op.Withdraw tx voter) order rows = rows
rows_within core (op.Cancel tx) order rows = (
  rows.0,
  pushes_mapped core.repositories tx _
      (λ push is. record { book = is.book; there = is.there; begun = is.begun; lease = is.lease })
      core.pushes rows.1,
)
rows_within core (op.Stop tx) order rows = (
  rows.0,
  pushes_mapped core.repositories tx _
      (λ push is. record { book = is.book; there = is.there; begun = is.begun; lease = is.lease })
      core.pushes rows.1,
)
rows_within core (op.Collect tx voter sub) order rows = rows
rows_within core (op.Outcome tx sub) order rows = rows
rows_within core (op.Close tx) order rows =
    (rows.0, all_filter (IsPushWithin core.repositories) _ core.pushes rows.1)
rows_within core (op.Create virt path factor) order rows = created core (found core virt path) _
    (left core (op.Create virt path factor)).0 rows
rows_within core (op.Enrol repo storage lease) order rows =
    by_book core repo.0 _ (repository core repo.0) (left core (op.Enrol repo storage lease)).0 rows
rows_within core (op.Begin repo) order rows =
    begun core repo.0 (repository core repo.0) refl (left core (op.Begin repo)).0 rows
rows_within core (op.Finish tx) order rows =
    (rows.0, all_filter (IsPushWithin core.repositories) _ core.pushes rows.1)
rows_within core (op.Dequeue target now) order rows =
    dequeued_so core (next_job core target.0) now order
    (λ next is. next_is core target.0 core.jobs next is)
    (left core (op.Dequeue target now)).0 rows
rows_within core (op.Beat job lease now) order rows = (
  jobs_mapped core.repositories (λ (x : Job). x.number.0 == job.0) (beaten now)
      (leaves_beaten now) core.jobs rows.0,
  rows.1,
)
rows_within core (op.Ack job lease good) order rows =
    ended_so core good (job_at core job.0) (left core (op.Ack job lease good)).0 rows
rows_within core (op.Stale now span) order rows = (
  jobs_mapped core.repositories (is_stale now span) failed leaves_failed core.jobs rows.0,
  rows.1,
)
rows_within core (op.Reconcile only) order rows =
    (jobs_planned core (repo_number only) rows.0, rows.1)
rows_within core (op.RouteRead repo) order rows = rows
rows_within core (op.SetFactor repo factor) order rows =
    by_book core repo.0 _ (repository core repo.0) (left core (op.SetFactor repo factor)).0 rows
rows_within core (op.AcceptBegin repo storage) order rows =
    by_repair core repo.0 storage.0 _ (repository core repo.0)
    (left core (op.AcceptBegin repo storage)).0 rows
rows_within core (op.Accept repo storage lease) order rows =
    by_repair core repo.0 storage.0 _ (repository core repo.0)
    (left core (op.Accept repo storage lease)).0 rows
rows_within core (op.SettleBegin repo storage) order rows =
    by_repair core repo.0 storage.0 _ (repository core repo.0)
    (left core (op.SettleBegin repo storage)).0 rows
rows_within core (op.Settle repo storage lease last) order rows =
    by_repair core repo.0 storage.0 _ (repository core repo.0)
    (left core (op.Settle repo storage lease last)).0 rows
rows_within core (op.Booked repo) order rows = rows
rows_within core (op.Find virt path) order rows = rows
rows_within core (op.Holder repo) order rows = rows
