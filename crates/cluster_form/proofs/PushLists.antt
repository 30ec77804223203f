-- What is true of each open push stays so at each operation, whatever it is.
use Rattle.std.proofs.Common.{◌≡◌, ◌==◌, ℕ, List, [], ◌∷◌, Bool, true, false, if◌then◌else◌, Option, None, Some, refl, map}
use Rattle.std.specs.List.{AllByRecursion}
use Rattle.px_base.specs.declared.hash.Hash.{Hash}
use Rattle.px_base.specs.declared.ids.TxId.{TxId}
use Rattle.px_base.specs.declared.phase.Phase.{Phase}
use Rattle.px_ops.specs.declared.job.Job.{Job}
use Rattle.px_ops.specs.declared.job.JobKind.{JobKind}
use Rattle.px_ops.specs.declared.job.JobKind.TheVariants.{Update, Delete}
use Rattle.px_ops.specs.declared.op.Op.{Op}
use Rattle.px_ops.specs.declared.op.Op.TheVariants as op
use Rattle.txmanager.specs.VoterCalls.{after_cast}
use Rattle.txmanager.specs.Voting.{Voting}
use Rattle.px_cluster.specs.Book.{Repository}
use Rattle.px_cluster.specs.Casts.{booked_by, cast_on, with_cast_booked}
use Rattle.px_cluster.specs.Core.{Core, OpenPush, job_at, push_of, repository, voting, with_repository_by}
use Rattle.px_cluster.specs.Creating.{found, with_created}
use Rattle.px_cluster.specs.Ids.{repo_id}
use Rattle.px_cluster.specs.Jobs.{ended_job, with_end_booked, without_job}
use Rattle.px_cluster.specs.Ops.{left_by}
use Rattle.px_cluster.specs.Pushes.{beginning, begun_at}
use Rattle.px_cluster.specs.Taking.{Drop, Next, PassOver, Take, Taking, dequeued, dequeued_by, next_job, taken_in}
use Rattle.cluster_form.proofs.Lists.{all_both, all_filter, all_map, choose}

module _ (P : OpenPush → Type 0)
    (marked : (push : OpenPush) (canceled stopped : Bool) → P push
    → P (record push { canceled = canceled; stopped = stopped })) where
  abbrev All : Core → Type 0
  All core = AllByRecursion P core.pushes

  by_book : (core : Core) (repo : ℕ) (change : Repository → Repository)
      (there : Option Repository) → All core → All (with_repository_by there repo change core)
  by_book core repo change None all = all
  by_book core repo change (Some book) all = all

  cast_booked : (core : Core) (push : Option OpenPush) (name : List ℕ) (phase : Phase)
      (hash : Hash) (old new : Voting) → All core
      → All (with_cast_booked push name phase hash old new core)
  cast_booked core None name phase hash old new all = all
  cast_booked core (Some push) name phase hash old new all =
      by_book core push.repo (booked_by push name phase hash old new) (repository core push.repo) all

  cast : (core : Core) (tx : TxId) (name : List ℕ) (phase : Phase) (hash : Hash)
      (vote : Option Voting) → All core → All (cast_on tx name phase hash vote core)
  cast core tx name phase hash None all = all
  cast core tx name phase hash (Some old) all = cast_booked (record core { transactions = _ })
      (push_of core tx) name phase hash old (after_cast name phase hash old) all

  created : (core : Core) (there : Option ℕ) (book : Repository) → All core
      → All (with_created there book core)
  created core None book all = all
  created core (Some repo) book all = all

  begun : (core : Core) (repo : ℕ) (there : Option Repository)
      → ((book : Repository) → there ≡ Some book → P (beginning core repo book)) → All core
      → All (begun_at repo there core)
  begun core repo None new all = all
  begun core repo (Some book) new all =
      all_both P core.pushes (beginning core repo book ∷ []) all (new book refl, tt)

  taken : (core : Core) (job : Job) (source : Option ℕ) (now : ℕ) (there : Option Repository)
      → All core → All (taken_in there job source now core)
  taken core job source now None all = all
  taken core job source now (Some book) all = all

  dequeued_so : (core : Core) (next : Option Next) (now : ℕ) → All core
      → All (dequeued next now core)
  dequeued_so core None now all = all
  dequeued_so core (Some next) now all = by_what next.taking
    where
      by_what : (taking : Taking) → All (dequeued_by next.job taking now core)
      by_what PassOver = all
      by_what Drop = all
      by_what (Take source) =
          taken core next.job source now (repository core next.job.repo.0) all

  ended_so : (core : Core) (good : Bool) (job : Option Job) → All core
      → All (ended_job good job core)
  ended_so core good None all = all
  ended_so core true (Some job) all = by_kind job.kind
    where
      by_kind : (kind : JobKind) → All (with_end_booked job kind (without_job job.number core))
      by_kind Update = by_book (without_job job.number core) job.repo.0 _
          (repository core job.repo.0) all
      by_kind Delete = all
  ended_so core false (Some job) all = all

  marked_so : (tx : TxId) (change : OpenPush → OpenPush)
      → ((push : OpenPush) → P push → P (change push)) → (pushes : List OpenPush)
      → AllByRecursion P pushes → AllByRecursion P
      (map (λ (push : OpenPush). if push.tx.0 == tx.0 then change push else push) pushes)
  marked_so tx change on pushes all = all_map P P _ pushes (λ push is.
      choose P (push.tx.0 == tx.0) (change push) push (λ holds. on push is) (λ fails. is)) all

  pub pushes_left : (core : Core) (asked : Op)
      → ((repo : ℕ) (book : Repository) → repository core repo ≡ Some book
      → asked ≡ op.Begin (repo_id repo) → P (beginning core repo book)) → All core
      → All (left_by core asked)
  pushes_left core (op.Admit virt name) new all = all
  pushes_left core (op.Health storage up) new all = all
  pushes_left core (op.Open threshold rounds voters) new all = all
  pushes_left core (op.Cast tx voter phase hash) new all =
      cast core tx voter phase hash (voting core tx) all
  pushes_left core (op.Withdraw tx voter) new all = all
  pushes_left core (op.Cancel tx) new all =
      marked_so tx _ (λ push is. marked push true push.stopped is) core.pushes all
  pushes_left core (op.Stop tx) new all =
      marked_so tx _ (λ push is. marked push push.canceled true is) core.pushes all
  pushes_left core (op.Collect tx voter sub) new all = all
  pushes_left core (op.Outcome tx sub) new all = all
  pushes_left core (op.Close tx) new all = all_filter P _ core.pushes all
  pushes_left core (op.Create virt path factor) new all =
      created core (found core virt path) _ all
  pushes_left core (op.Enrol repo storage lease) new all =
      by_book core repo.0 _ (repository core repo.0) all
  pushes_left core (op.Begin repo) new all =
      begun core repo.0 (repository core repo.0) (λ book is. new repo.0 book is refl) all
  pushes_left core (op.Finish tx) new all = all_filter P _ core.pushes all
  pushes_left core (op.Dequeue target now) new all =
      dequeued_so core (next_job core target.0) now all
  pushes_left core (op.Beat job lease now) new all = all
  pushes_left core (op.Ack job lease good) new all = ended_so core good (job_at core job.0) all
  pushes_left core (op.Stale now span) new all = all
  pushes_left core (op.Reconcile only) new all = all
  pushes_left core (op.RouteRead repo) new all = all
  pushes_left core (op.SetFactor repo factor) new all =
      by_book core repo.0 _ (repository core repo.0) all
  pushes_left core (op.AcceptBegin repo storage) new all =
      by_book (record core { jobs = _ }) repo.0 _ (repository core repo.0) all
  pushes_left core (op.Accept repo storage lease) new all =
      by_book (record core { jobs = _ }) repo.0 _ (repository core repo.0) all
  pushes_left core (op.SettleBegin repo storage) new all =
      by_book (record core { jobs = _ }) repo.0 _ (repository core repo.0) all
  pushes_left core (op.Settle repo storage lease last) new all =
      by_book (record core { jobs = _ }) repo.0 _ (repository core repo.0) all
  pushes_left core (op.Booked repo) new all = all
  pushes_left core (op.Find virt path) new all = all
  pushes_left core (op.Holder repo) new all = all
