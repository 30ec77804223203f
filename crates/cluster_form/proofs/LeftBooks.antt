-- Newest generations stay as they are at each operation but a cast that decides and an acceptance.
use Rattle.std.proofs.Common.{◌≡◌, ℕ, zero, suc, List, [], ◌∷◌, ◌++◌, Bool, true, false, if◌then◌else◌, Option, None, Some, refl, sym, ◌∙◌, ap, length, map, set, slice_get, unwrap_or}
use Rattle.std.specs.Option.{option_map}
use Rattle.std.specs.Str.{bytes_eq}
use Rattle.px_base.specs.Hash.{same_hash}
use Rattle.px_base.specs.declared.hash.Hash.{Hash}
use Rattle.px_base.specs.declared.phase.Phase.{Phase}
use Rattle.px_base.specs.declared.phase.Phase.TheVariants.{Prepared, Committed}
use Rattle.px_ops.specs.declared.job.Job.{Job}
use Rattle.px_ops.specs.declared.job.JobKind.{JobKind}
use Rattle.px_ops.specs.declared.job.JobKind.TheVariants.{Update, Delete}
use Rattle.px_ops.specs.declared.op.Op.{Op}
use Rattle.px_ops.specs.declared.op.Op.TheVariants as op
use Rattle.txmanager.specs.Voting.{Voting}
use Rattle.voters.specs.declared.outcome.Outcome.{Outcome}
use Rattle.voters.specs.declared.outcome.Outcome.TheVariants as outcome
use Rattle.px_cluster.specs.Book.{Repository}
use Rattle.px_cluster.specs.Casts.{booked_by, booked_by_commit, booked_by_outcomes, came_late, confirmed_on, member_named}
use Rattle.px_cluster.specs.Core.{Core, OpenPush, job_at, repository, with_book_changed, with_repository_by}
use Rattle.px_cluster.specs.Creating.{assigned_for, created_on, found, unmade, unrecorded, with_created, with_storage}
use Rattle.px_cluster.specs.Jobs.{ended_job, with_end_booked, without_job}
use Rattle.px_cluster.specs.Ops.{left_by}
use Rattle.px_cluster.specs.Pushes.{begun_at, is_open, prepared_outcome}
use Rattle.px_cluster.specs.Taking.{Drop, Next, PassOver, Take, Taking, book_as_taken, dequeued, dequeued_by, next_job, taken_in}
use Rattle.cluster_form.proofs.Lists.{if_kept, some_is}

-- ---- one repository

abbrev pub newest_of : Repository → ℕ
newest_of book = book.newest

abbrev pub newest_in : List Repository → ℕ → Option ℕ
newest_in books repo = option_map newest_of (slice_get books repo)

-- it is still on record, and its newest generation is the same
abbrev pub Stays : List Repository → List Repository → ℕ → Type 0
Stays old new repo = (book : Repository) → slice_get old repo ≡ Some book
    → newest_in new repo ≡ Some book.newest

self : (books : List Repository) (repo : ℕ) → Stays books books repo
self books repo book is = ap (option_map newest_of) is

-- where another book stands at one place, each other one stays, and this one if its newest does
pub set_so : (books : List Repository) (at : ℕ) (new : Repository) (repo : ℕ)
    → (repo ≡ at → (book : Repository) → slice_get books at ≡ Some book
    → new.newest ≡ book.newest) → Stays books (set books at new) repo
set_so [] at new repo same book is = absurd (let none : None ≡ Some book = is in cc)
set_so (first ∷ books) zero new zero same book is = ap (λ n. Some n) (same refl book is)
set_so (first ∷ books) zero new (suc repo) same book is = ap (option_map newest_of) is
set_so (first ∷ books) (suc at) new zero same book is = ap (option_map newest_of) is
set_so (first ∷ books) (suc at) new (suc repo) same book is =
    set_so books at new repo (λ here. same (ap suc here)) book is

-- .. as where the book that stood there was changed
pub change_so : (books : List Repository) (at : ℕ) (was new : Repository) (repo : ℕ)
    → slice_get books at ≡ Some was → (repo ≡ at → new.newest ≡ was.newest)
    → Stays books (set books at new) repo
change_so books at was new repo there same = set_so books at new repo
    (λ here book is. same here ∙ ap newest_of (some_is was book (sym there ∙ is)))

more_so : (books : List Repository) (new : Repository) (repo : ℕ)
    → Stays books (books ++ new ∷ []) repo
more_so [] new repo book is = absurd (let none : None ≡ Some book = is in cc)
more_so (first ∷ books) new zero book is = ap (option_map newest_of) is
more_so (first ∷ books) new (suc repo) book is = more_so books new repo book is

map_so : (change : Repository → Repository) → ((book : Repository)
    → (change book).newest ≡ book.newest) → (books : List Repository) (repo : ℕ)
    → Stays books (map change books) repo
map_so change same [] repo book is = absurd (let none : None ≡ Some book = is in cc)
map_so change same (first ∷ books) zero book is =
    ap (λ n. Some n) (same first ∙ ap newest_of (some_is first book is))
map_so change same (first ∷ books) (suc repo) book is = map_so change same books repo book is

-- ---- what a cast books

late_same : (push : OpenPush) (vote : Voting) (storage : Option ℕ) (book : Repository)
    → (came_late push vote storage book).newest ≡ book.newest
late_same push vote None book = refl
late_same push vote (Some storage) book = refl

by_outcomes : (push : OpenPush) (vote : Voting) (storage : Option ℕ) (was now : Outcome)
    (book : Repository) → is_open now ≡ true
    → (booked_by_outcomes push vote storage was now book).newest ≡ book.newest
by_outcomes push vote storage outcome.Open (outcome.Commit hash) book is =
    absurd (let z : false ≡ true = is in cc)
by_outcomes push vote storage (outcome.Commit before) now book is =
    late_same push vote storage book
by_outcomes push vote storage was now book is = refl

confirmed_same : (push : OpenPush) (storage : Option ℕ) (book : Repository)
    → (confirmed_on push storage book).newest ≡ book.newest
confirmed_same push None book = refl
confirmed_same push (Some storage) book = refl

if_it_holds : (holds : Bool) (change : Repository → Repository) (book : Repository)
    → (change book).newest ≡ book.newest
    → ((if holds then change else (λ b. b)) book).newest ≡ book.newest
if_it_holds true change book same = same
if_it_holds false change book same = refl

by_commit : (push : OpenPush) (storage : Option ℕ) (hash : Hash) (now : Outcome)
    (book : Repository) → (booked_by_commit push storage hash now book).newest ≡ book.newest
by_commit push storage hash (outcome.Commit decided_) book =
    if_it_holds (same_hash decided_ hash) (confirmed_on push storage) book
    (confirmed_same push storage book)
by_commit push storage hash now book = refl

-- as long as the first phase is open, a cast leaves newest
pub open_cast : (push : OpenPush) (name : List ℕ) (phase : Phase) (hash : Hash)
    (old new : Voting) (book : Repository) → is_open (prepared_outcome new) ≡ true
    → (booked_by push name phase hash old new book).newest ≡ book.newest
open_cast push name Prepared hash old new book is = by_outcomes push new
    (member_named push old name) (prepared_outcome old) (prepared_outcome new) book is
open_cast push name Committed hash old new book is =
    by_commit push (member_named push old name) hash (prepared_outcome old) book

-- ---- each operation

-- an operation that raises no newest generation
abbrev pub RaisesNone : Op → Type 0
RaisesNone (op.Cast tx voter phase hash) = ⊥
RaisesNone (op.Accept repo storage lease) = ⊥
RaisesNone other = Unit {0}

module _ (repo : ℕ) where
  abbrev pub StaysAt : Core → Core → Type 0
  StaysAt old new = Stays old.repositories new.repositories repo

  same : (core : Core) → StaysAt core core
  same core = self core.repositories repo

  changed_by : (core : Core) (at : ℕ) (change : Repository → Repository)
      → ((book : Repository) → (change book).newest ≡ book.newest) → (there : Option Repository)
      → repository core at ≡ there → StaysAt core (with_repository_by there at change core)
  changed_by core at change keeps None is = same core
  changed_by core at change keeps (Some was) is =
      change_so core.repositories at was (change was) repo is (λ here. keeps was)

  changed : (core : Core) (at : ℕ) (change : Repository → Repository)
      → ((book : Repository) → (change book).newest ≡ book.newest)
      → StaysAt core (with_book_changed at change core)
  changed core at change keeps = changed_by core at change keeps (repository core at) refl

  created : (core : Core) (virt path storages : List ℕ) (there : Option ℕ)
      → StaysAt core (with_created there (created_on storages (unwrap_or
      (repository core (unwrap_or there (length core.repositories))) (unmade core virt path)))
      core)
  created core virt path storages None = more_so core.repositories _ repo
  created core virt path storages (Some at) = set_so core.repositories at _ repo (λ here book is.
      ap (λ (o : Option Repository). (unwrap_or o (unmade core virt path)).newest) is)

  begun : (core : Core) (at : ℕ) (there : Option Repository) → repository core at ≡ there
      → StaysAt core (begun_at at there core)
  begun core at None is = same core
  begun core at (Some was) is = change_so core.repositories at was _ repo is (λ here. refl)

  taken_same : (job : Job) (kind : JobKind) (book : Repository)
      → (book_as_taken job kind book).newest ≡ book.newest
  taken_same job Update book = refl
  taken_same job Delete book = refl

  taken : (core : Core) (job : Job) (source : Option ℕ) (now : ℕ) (there : Option Repository)
      → repository core job.repo.0 ≡ there → StaysAt core (taken_in there job source now core)
  taken core job source now None is = same core
  taken core job source now (Some book) is = change_so core.repositories job.repo.0 book _ repo is
      (λ here. taken_same job job.kind book)

  dequeued_so : (core : Core) (next : Option Next) (now : ℕ)
      → StaysAt core (dequeued next now core)
  dequeued_so core None now = same core
  dequeued_so core (Some next) now = by_what next.taking
    where
      by_what : (taking : Taking) → StaysAt core (dequeued_by next.job taking now core)
      by_what PassOver = same core
      by_what Drop = same core
      by_what (Take source) =
          taken core next.job source now (repository core next.job.repo.0) refl

  ended_so : (core : Core) (good : Bool) (job : Option Job)
      → StaysAt core (ended_job good job core)
  ended_so core good None = same core
  ended_so core true (Some job) = by_kind job.kind
    where
      by_kind : (kind : JobKind)
          → StaysAt core (with_end_booked job kind (without_job job.number core))
      by_kind Update = changed (without_job job.number core) job.repo.0 _ (λ book. refl)
      by_kind Delete = same core
  ended_so core false (Some job) = same core

  pub newest_left : (core : Core) (asked : Op) → RaisesNone asked
      → StaysAt core (left_by core asked)
  newest_left core (op.Admit virt name) is = map_so (with_storage virt (length core.storages))
      (λ book. if_kept newest_of (bytes_eq book.virt virt)
      (record book { replicas = book.replicas ++ unrecorded (length core.storages) ∷ [] }) book
      refl) core.repositories repo
  newest_left core (op.Health storage up) is = same core
  newest_left core (op.Open threshold rounds voters) is = same core
  newest_left core (op.Cast tx voter phase hash) is = absurd is
  newest_left core (op.Withdraw tx voter) is = same core
  newest_left core (op.Cancel tx) is = same core
  newest_left core (op.Stop tx) is = same core
  newest_left core (op.Collect tx voter sub) is = same core
  newest_left core (op.Outcome tx sub) is = same core
  newest_left core (op.Close tx) is = same core
  newest_left core (op.Create virt path factor) is =
      created core virt path (assigned_for core virt factor) (found core virt path)
  newest_left core (op.Enrol at storage lease) is = changed core at.0 _ (λ book. refl)
  newest_left core (op.Begin at) is = begun core at.0 (repository core at.0) refl
  newest_left core (op.Finish tx) is = same core
  newest_left core (op.Dequeue target now) is = dequeued_so core (next_job core target.0) now
  newest_left core (op.Beat job lease now) is = same core
  newest_left core (op.Ack job lease good) is = ended_so core good (job_at core job.0)
  newest_left core (op.Stale now span) is = same core
  newest_left core (op.Reconcile only) is = same core
  newest_left core (op.RouteRead at) is = same core
  newest_left core (op.SetFactor at factor) is = changed core at.0 _ (λ book. refl)
  newest_left core (op.AcceptBegin at storage) is =
      changed (record core { jobs = _ }) at.0 _ (λ book. refl)
  newest_left core (op.Accept at storage lease) is = absurd is
  newest_left core (op.SettleBegin at storage) is =
      changed (record core { jobs = _ }) at.0 _ (λ book. refl)
  newest_left core (op.Settle at storage lease last) is =
      changed (record core { jobs = _ }) at.0 _ (λ book. refl)
  newest_left core (op.Booked at) is = same core
  newest_left core (op.Find virt path) is = same core
  newest_left core (op.Holder at) is = same core
