-- A repository stays on record, and newest generations, leases and numbers never fall.
use Rattle.std.proofs.Common.{◌≡◌, ℕ, ◌≤◌, zero, suc, List, [], ◌∷◌, length, true, false, unwrap_or, Option, None, Some, refl, sym, ◌∙◌, subst, arith, slice_get}
use Rattle.px_base.specs.declared.hash.Hash.{Hash}
use Rattle.px_base.specs.declared.ids.TxId.{TxId}
use Rattle.px_base.specs.declared.phase.Phase.{Phase}
use Rattle.px_ops.specs.declared.job.Job.{Job}
use Rattle.px_ops.specs.declared.job.JobKind.{JobKind}
use Rattle.px_ops.specs.declared.job.JobKind.TheVariants.{Update, Delete}
use Rattle.px_ops.specs.declared.op.Op.{Op}
use Rattle.px_ops.specs.declared.op.Op.TheVariants as op
use Rattle.txmanager.specs.VoterCalls.{after_cast}
use Rattle.txmanager.specs.Voting.{Voting}
use Rattle.px_cluster.specs.Book.{Repository}
use Rattle.px_cluster.specs.Casts.{booked_by, cast_on, with_cast_booked}
use Rattle.px_cluster.specs.Core.{Core, OpenPush, job_at, push_of, repository, voting, with_book_changed, with_repository_by}
use Rattle.px_cluster.specs.Creating.{assigned_for, created_on, found, unmade, with_created}
use Rattle.px_cluster.specs.Growth.{Grows, IsLater}
use Rattle.px_cluster.specs.Jobs.{ended_job, with_end_booked, without_job}
use Rattle.px_cluster.specs.Ops.{left_by}
use Rattle.px_cluster.specs.Pushes.{beginning, begun_at, drawn_for_members}
use Rattle.px_cluster.specs.Taking.{Drop, Next, PassOver, Take, Taking, dequeued, dequeued_by, next_job, taken_in}
use Rattle.px_cluster.proofs.LaterBooks.{AreLater, MakesLater, are_changed, are_more, are_same, as_late, by_admission, by_cast, by_taking, drawn_book, is_set, raised_book}

-- ---- cores

-- by the lists of repositories, and the last numbers
abbrev pub GrowsSo : Core → Core → Type 0
GrowsSo old new = AreLater old.repositories new.repositories × (old.last_tx ≤ new.last_tx)
    × (old.last_job ≤ new.last_job)

least : (n : ℕ) → n ≤ n
least n = omega arith

pub stays : (core : Core) → GrowsSo core core
stays core = (are_same core.repositories, least core.last_tx, least core.last_job)

-- what stands at the place of a repository is that one
at_its_place : (core : Core) (repo : ℕ) (was new : Repository) → repository core repo ≡ Some was
    → IsLater was new → (book : Repository) → slice_get core.repositories repo ≡ Some book
    → IsLater book new
at_its_place core repo was new is later book found_ =
    let both : Some book ≡ Some was = sym found_ ∙ is in
    let one : book ≡ was = cc in
    subst (λ (b : Repository). IsLater b new) (sym one) later

-- a repository changed, where there is one
changed_by : (core : Core) (repo : ℕ) (change : Repository → Repository) → MakesLater change
    → (there : Option Repository) → repository core repo ≡ there
    → GrowsSo core (with_repository_by there repo change core)
changed_by core repo change later None is = stays core
changed_by core repo change later (Some was) is =
    let at = at_its_place core repo was (change was) is (later was) in
    (is_set core.repositories repo (change was) at, least core.last_tx, least core.last_job)

changed : (core : Core) (repo : ℕ) (change : Repository → Repository) → MakesLater change
    → GrowsSo core (with_book_changed repo change core)
changed core repo change later = changed_by core repo change later (repository core repo) refl

-- ---- what an operation leaves

cast_booked : (core : Core) (push : Option OpenPush) (name : List ℕ) (phase : Phase) (hash : Hash)
    (old new : Voting) → GrowsSo core (with_cast_booked push name phase hash old new core)
cast_booked core None name phase hash old new = stays core
cast_booked core (Some push) name phase hash old new =
    changed core push.repo (booked_by push name phase hash old new)
    (by_cast push name phase hash old new)

cast : (core : Core) (tx : TxId) (name : List ℕ) (phase : Phase) (hash : Hash)
    (vote : Option Voting) → GrowsSo core (cast_on tx name phase hash vote core)
cast core tx name phase hash None = stays core
cast core tx name phase hash (Some old) = cast_booked (record core { transactions = _ })
    (push_of core tx) name phase hash old (after_cast name phase hash old)

-- a repository that is made is new, or made again
created : (core : Core) (virt path storages : List ℕ) (there : Option ℕ) → GrowsSo core
    (with_created there (created_on storages (unwrap_or
    (repository core (unwrap_or there (length core.repositories))) (unmade core virt path))) core)
created core virt path storages None =
    (are_more core.repositories (_ ∷ []), least core.last_tx, least core.last_job)
created core virt path storages (Some repo) =
    (is_set core.repositories repo _ again, least core.last_tx, least core.last_job)
  where
    again : (book : Repository) → slice_get core.repositories repo ≡ Some book
        → IsLater book (created_on storages
        (unwrap_or (repository core repo) (unmade core virt path)))
    again book is = subst (λ (there : Option Repository). IsLater book (created_on storages
        (unwrap_or there (unmade core virt path)))) (sym is)
        (drawn_book book (created_on storages book) refl refl refl refl)

begun : (core : Core) (repo : ℕ) (there : Option Repository) → repository core repo ≡ there
    → GrowsSo core (begun_at repo there core)
begun core repo None is = stays core
begun core repo (Some was) is =
    let push = beginning core repo was in
    let drawn = drawn_book was (drawn_for_members push was) refl refl refl refl in (
      is_set core.repositories repo (drawn_for_members push was)
          (at_its_place core repo was (drawn_for_members push was) is drawn),
      omega arith,
      least core.last_job,
    )

taken : (core : Core) (job : Job) (source : Option ℕ) (now : ℕ) (there : Option Repository)
    → repository core job.repo.0 ≡ there → GrowsSo core (taken_in there job source now core)
taken core job source now None is = stays core
taken core job source now (Some book) is =
    changed_by core job.repo.0 _ (by_taking job job.kind) (Some book) is

dequeued_so : (core : Core) (next : Option Next) (now : ℕ) → GrowsSo core (dequeued next now core)
dequeued_so core None now = stays core
dequeued_so core (Some next) now = by_what next.taking
  where
    by_what : (taking : Taking) → GrowsSo core (dequeued_by next.job taking now core)
    by_what PassOver = stays core
    by_what Drop = stays core
    by_what (Take source) =
        taken core next.job source now (repository core next.job.repo.0) refl

ended_so : (core : Core) (good : _) (job : Option Job) → GrowsSo core (ended_job good job core)
ended_so core good None = stays core
ended_so core true (Some job) = by_kind job.kind
  where
    by_kind : (kind : JobKind)
        → GrowsSo core (with_end_booked job kind (without_job job.number core))
    by_kind Update = changed (without_job job.number core) job.repo.0 _
        (λ book. as_late book _ refl refl refl refl)
    by_kind Delete = stays core
ended_so core false (Some job) = stays core

pub left : (core : Core) (asked : Op) → GrowsSo core (left_by core asked)
left core (op.Admit virt name) = (
  are_changed _ (by_admission virt (length core.storages)) core.repositories,
  least core.last_tx,
  least core.last_job,
)
left core (op.Health storage up) = stays core
left core (op.Open threshold rounds voters) =
    (are_same core.repositories, omega arith, least core.last_job)
left core (op.Cast tx voter phase hash) = cast core tx voter phase hash (voting core tx)
left core (op.Withdraw tx voter) = stays core
left core (op.Cancel tx) = stays core
left core (op.Stop tx) = stays core
left core (op.Collect tx voter sub) = stays core
left core (op.Outcome tx sub) = stays core
left core (op.Close tx) = stays core
left core (op.Create virt path factor) =
    created core virt path (assigned_for core virt factor) (found core virt path)
left core (op.Enrol repo storage lease) =
    changed core repo.0 _ (λ book. as_late book _ refl refl refl refl)
left core (op.Begin repo) = begun core repo.0 (repository core repo.0) refl
left core (op.Finish tx) = stays core
left core (op.Dequeue target now) = dequeued_so core (next_job core target.0) now
left core (op.Beat job lease now) = stays core
left core (op.Ack job lease good) = ended_so core good (job_at core job.0)
left core (op.Stale now span) = stays core
left core (op.Reconcile only) =
    (are_same core.repositories, least core.last_tx, omega arith)
left core (op.RouteRead repo) = stays core
left core (op.SetFactor repo factor) =
    changed core repo.0 _ (λ book. as_late book _ refl refl refl refl)
left core (op.AcceptBegin repo storage) = changed (record core { jobs = _ }) repo.0 _
    (λ book. drawn_book book _ refl refl refl refl)
left core (op.Accept repo storage lease) = changed (record core { jobs = _ }) repo.0 _
    (λ book. raised_book book _ refl refl refl refl)
left core (op.SettleBegin repo storage) = changed (record core { jobs = _ }) repo.0 _
    (λ book. drawn_book book _ refl refl refl refl)
left core (op.Settle repo storage lease last) = changed (record core { jobs = _ }) repo.0 _
    (λ book. as_late book _ refl refl refl refl)
left core (op.Booked repo) = stays core
left core (op.Find virt path) = stays core
left core (op.Holder repo) = stays core

-- ---- in a reader's words

on_record : (old new : List Repository) → AreLater old new → (repo : ℕ) (book : Repository)
    → slice_get old repo ≡ Some book
    → (later : Repository) × (slice_get new repo ≡ Some later) × IsLater book later
on_record [] new are repo book is = absurd (let none : None ≡ Some book = is in cc)
on_record (first ∷ old) [] are repo book is = absurd are
on_record (first ∷ old) (now ∷ new) are zero book is =
    let same : first ≡ book = cc in
    (now, refl, subst (λ (b : Repository). IsLater b now) same are.0)
on_record (first ∷ old) (now ∷ new) are (suc repo) book is =
    on_record old new are.1 repo book is

pub grows : (old new : Core) → GrowsSo old new → Grows old new
grows old new so = record {
  books = λ repo book is.
      let on = on_record old.repositories new.repositories so.0 repo book is in
      record { book = on.0; there = on.1; later = on.2 };
  last_tx = so.1;
  last_job = so.2;
}
