-- The book's numbers stay within what was given, at each operation.
use Rattle.std.proofs.Common.{◌≡◌, ◌≤◌, ◌==◌, ℕ, List, [], ◌∷◌, Bool, true, false, Option, None, Some, refl, sym, ◌∙◌, subst, length, unwrap_or}
use Rattle.std.specs.List.{AllByRecursion}
use Rattle.px_base.specs.declared.hash.Hash.{Hash}
use Rattle.px_base.specs.declared.ids.TxId.{TxId}
use Rattle.px_base.specs.declared.phase.Phase.{Phase}
use Rattle.px_ops.specs.declared.job.Job.{Job}
use Rattle.px_ops.specs.declared.job.JobKind.{JobKind}
use Rattle.px_ops.specs.declared.job.JobKind.TheVariants.{Update, Delete}
use Rattle.px_ops.specs.declared.op.Op.{Op}
use Rattle.px_ops.specs.declared.op.Op.TheVariants as op
use Rattle.txmanager.specs.VoterCalls.{after_cast}
use Rattle.txmanager.specs.Voting.{Voting}
use Rattle.px_cluster.specs.Book.{Repository}
use Rattle.px_cluster.specs.Casts.{booked_by, cast_on, with_cast_booked}
use Rattle.px_cluster.specs.Core.{Core, OpenPush, job_at, push_of, repository, voting, with_repository_by}
use Rattle.px_cluster.specs.Creating.{assigned_for, created_on, found, unmade, with_created}
use Rattle.px_cluster.specs.Jobs.{ended_job, with_end_booked, without_job}
use Rattle.px_cluster.specs.Ops.{left_by}
use Rattle.px_cluster.specs.Pushes.{beginning, begun_at}
use Rattle.px_cluster.specs.Taking.{Drop, Next, PassOver, Take, Taking, book_as_taken, dequeued, dequeued_by, next_job, taken_in}
use Rattle.cluster_form.specs.Within.{AreWithin, IsBookWithin, IsJobWithin, IsPushWithin}
use Rattle.cluster_form.proofs.BooksWithin.{KeepsWithin, accepted_within, admitted_within, begun_within, cast_within, created_within, ended_within, enrolled_within, lease_within, reassigned_within, settled_within, taken_within, unmade_within}
use Rattle.cluster_form.proofs.Lists.{all_both, all_find, all_got, all_map, all_set, some_is}

abbrev pub BooksWithin : List Repository → Type 0
BooksWithin books = AllByRecursion IsBookWithin books

-- a repository changed, where there is one
changed_at : (core : Core) (repo : ℕ) (change : Repository → Repository) (there : Option Repository)
    → repository core repo ≡ there
    → ((book : Repository) → repository core repo ≡ Some book → IsBookWithin book
    → IsBookWithin (change book))
    → BooksWithin core.repositories
    → BooksWithin (with_repository_by there repo change core).repositories
changed_at core repo change None is keeps all = all
changed_at core repo change (Some book) is keeps all =
    all_set IsBookWithin core.repositories repo (change book) all
    (keeps book is (all_got IsBookWithin core.repositories repo book all is))

changed : (core : Core) (repo : ℕ) (change : Repository → Repository) → KeepsWithin change
    → BooksWithin core.repositories
    → BooksWithin (with_repository_by (repository core repo) repo change core).repositories
changed core repo change keeps all = changed_at core repo change (repository core repo) refl
    (λ book is within. keeps book within) all

-- ---- what an operation leaves

cast_booked : (core : Core) (push : Option OpenPush)
    → ((open_ : OpenPush) → push ≡ Some open_ → IsPushWithin core.repositories open_)
    → (name : List ℕ) (phase : Phase) (hash : Hash) (old new : Voting)
    → BooksWithin core.repositories
    → BooksWithin (with_cast_booked push name phase hash old new core).repositories
cast_booked core None are name phase hash old new all = all
cast_booked core (Some push) are name phase hash old new all =
    let within = are push refl in
    changed_at core push.repo (booked_by push name phase hash old new) (repository core push.repo)
    refl (λ book is so. cast_within push book so
    (subst (λ (b : Repository). push.lease ≤ b.last)
    (some_is within.book book (sym within.there ∙ is)) within.lease) name phase hash old new) all

cast : (core : Core) (are : AreWithin core) (tx : TxId) (name : List ℕ) (phase : Phase)
    (hash : Hash) (vote : Option Voting)
    → BooksWithin (cast_on tx name phase hash vote core).repositories
cast core are tx name phase hash None = are.books
cast core are tx name phase hash (Some old) = cast_booked (record core { transactions = _ })
    (push_of core tx) (λ push is. (all_find (IsPushWithin core.repositories)
    (λ (open_ : OpenPush). open_.tx.0 == tx.0) core.pushes push are.pushes is).0) name phase hash
    old (after_cast name phase hash old) are.books

created : (core : Core) (virt path storages : List ℕ) (there : Option ℕ)
    → BooksWithin core.repositories → BooksWithin (with_created there
    (created_on storages (unwrap_or (repository core (unwrap_or there (length core.repositories)))
    (unmade core virt path))) core).repositories
created core virt path storages there all =
    by there (created_within before within storages)
  where
    before : Repository
    before = unwrap_or (repository core (unwrap_or there (length core.repositories)))
        (unmade core virt path)

    or_unmade : (at : ℕ) (o : Option Repository) → repository core at ≡ o
        → IsBookWithin (unwrap_or o (unmade core virt path))
    or_unmade at None is = unmade_within core virt path
    or_unmade at (Some book) is = all_got IsBookWithin core.repositories at book all is

    within : IsBookWithin before
    within = or_unmade (unwrap_or there (length core.repositories)) _ refl

    by : (o : Option ℕ) → IsBookWithin (created_on storages before)
        → BooksWithin (with_created o (created_on storages before) core).repositories
    by None is = all_both IsBookWithin core.repositories (_ ∷ []) all (is, tt)
    by (Some repo) is = all_set IsBookWithin core.repositories repo _ all is

begun : (core : Core) (repo : ℕ) (there : Option Repository) → repository core repo ≡ there
    → BooksWithin core.repositories → BooksWithin (begun_at repo there core).repositories
begun core repo None is all = all
begun core repo (Some book) is all = all_set IsBookWithin core.repositories repo _ all
    (begun_within book (all_got IsBookWithin core.repositories repo book all is)
    (beginning core repo book) refl)

taken : (core : Core) (job : Job) (source : Option ℕ) (now : ℕ) (there : Option Repository)
    → repository core job.repo.0 ≡ there → BooksWithin core.repositories
    → BooksWithin (taken_in there job source now core).repositories
taken core job source now None is all = all
taken core job source now (Some book) is all =
    changed_at core job.repo.0 (book_as_taken job job.kind) (Some book) is
    (λ found is so. taken_within job job.kind found so) all

dequeued_so : (core : Core) (next : Option Next) (now : ℕ) → BooksWithin core.repositories
    → BooksWithin (dequeued next now core).repositories
dequeued_so core None now all = all
dequeued_so core (Some next) now all = by_what next.taking
  where
    by_what : (taking : Taking) → BooksWithin (dequeued_by next.job taking now core).repositories
    by_what PassOver = all
    by_what Drop = all
    by_what (Take source) =
        taken core next.job source now (repository core next.job.repo.0) refl all

ended_so : (core : Core) (are : AreWithin core) (good : Bool) (job : Option Job)
    → ((ends : Job) → job ≡ Some ends → IsJobWithin core.repositories ends)
    → BooksWithin (ended_job good job core).repositories
ended_so core are good None of = are.books
ended_so core are true (Some job) of = by_kind job.kind
  where
    by_kind : (kind : JobKind)
        → BooksWithin (with_end_booked job kind (without_job job.number core)).repositories
    by_kind Update =
        let within = of job refl in
        changed_at (without_job job.number core) job.repo.0 _ (repository core job.repo.0) refl
        (λ book is so. ended_within book so job.target.0 job.generation
        (subst (λ (b : Repository). job.generation.0 ≤ b.newest)
        (some_is within.book book (sym within.there ∙ is)) within.generation)) are.books
    by_kind Delete = are.books
ended_so core are false (Some job) of = are.books

pub books_within : (core : Core) (asked : Op) → AreWithin core
    → BooksWithin (left_by core asked).repositories
books_within core (op.Admit virt name) are = all_map IsBookWithin IsBookWithin _ core.repositories
    (λ book is. admitted_within book is virt (length core.storages)) are.books
books_within core (op.Health storage up) are = are.books
books_within core (op.Open threshold rounds voters) are = are.books
books_within core (op.Cast tx voter phase hash) are =
    cast core are tx voter phase hash (voting core tx)
books_within core (op.Withdraw tx voter) are = are.books
books_within core (op.Cancel tx) are = are.books
books_within core (op.Stop tx) are = are.books
books_within core (op.Collect tx voter sub) are = are.books
books_within core (op.Outcome tx sub) are = are.books
books_within core (op.Close tx) are = are.books
books_within core (op.Create virt path factor) are =
    created core virt path (assigned_for core virt factor) (found core virt path) are.books
books_within core (op.Enrol repo storage lease) are =
    changed core repo.0 _ (λ book is. enrolled_within book is storage.0) are.books
books_within core (op.Begin repo) are =
    begun core repo.0 (repository core repo.0) refl are.books
books_within core (op.Finish tx) are = are.books
books_within core (op.Dequeue target now) are =
    dequeued_so core (next_job core target.0) now are.books
books_within core (op.Beat job lease now) are = are.books
books_within core (op.Ack job lease good) are = ended_so core are good (job_at core job.0)
    (λ ends is. (all_find (IsJobWithin core.repositories)
    (λ (x : Job). x.number.0 == job.0) core.jobs ends are.jobs is).0)
books_within core (op.Stale now span) are = are.books
books_within core (op.Reconcile only) are = are.books
books_within core (op.RouteRead repo) are = are.books
books_within core (op.SetFactor repo factor) are =
    changed core repo.0 _ (λ book is. reassigned_within book is core factor) are.books
books_within core (op.AcceptBegin repo storage) are =
    changed (record core { jobs = _ }) repo.0 _ (lease_within storage.0) are.books
books_within core (op.Accept repo storage lease) are =
    changed (record core { jobs = _ }) repo.0 _ (λ book is. accepted_within book is storage.0)
    are.books
books_within core (op.SettleBegin repo storage) are =
    changed (record core { jobs = _ }) repo.0 _ (lease_within storage.0) are.books
books_within core (op.Settle repo storage lease last) are =
    changed (record core { jobs = _ }) repo.0 _ (λ book is. settled_within book is storage.0 last)
    are.books
books_within core (op.Booked repo) are = are.books
books_within core (op.Find virt path) are = are.books
books_within core (op.Holder repo) are = are.books
