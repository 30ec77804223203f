-- What each operation but an admission, a creation and a new factor leaves of each repository: its
-- virtual storage, its path, and its storages and which of them are assigned.
use Rattle.std.proofs.Common.{◌≡◌, ℕ, ◌+◌, zero, suc, List, [], ◌∷◌, Bool, true, false, if◌then◌else◌, Option, None, Some, refl, sym, ◌∙◌, subst, slice_get, set, map}
use Rattle.px_base.specs.Hash.{same_hash}
use Rattle.px_base.specs.declared.hash.Hash.{Hash}
use Rattle.px_base.specs.declared.ids.TxId.{TxId}
use Rattle.px_base.specs.declared.phase.Phase.{Phase}
use Rattle.px_base.specs.declared.phase.Phase.TheVariants.{Prepared, Committed}
use Rattle.px_ops.specs.declared.job.Job.{Job}
use Rattle.px_ops.specs.declared.job.JobKind.{JobKind}
use Rattle.px_ops.specs.declared.job.JobKind.TheVariants.{Update, Delete}
use Rattle.px_ops.specs.declared.op.Op.{Op}
use Rattle.px_ops.specs.declared.op.Op.TheVariants as op
use Rattle.txmanager.specs.VoterCalls.{after_cast}
use Rattle.txmanager.specs.Voting.{Voting}
use Rattle.voters.specs.declared.outcome.Outcome.{Outcome}
use Rattle.voters.specs.declared.outcome.Outcome.TheVariants as outcome
use Rattle.px_cluster.specs.Book.{Replica, Repository, booked, drawn_for, in_doubt, is_absent, is_on, with_lease_for, with_replica_on}
use Rattle.px_cluster.specs.Casts.{booked_by, booked_by_commit, booked_by_outcomes, cast_on, confirmed, confirmed_on, in_doubt_if_told, is_told, member_named, with_cast_booked}
use Rattle.px_cluster.specs.Core.{Core, OpenPush, job_at, push_of, repository, voting, with_book_changed, with_repository_by}
use Rattle.px_cluster.specs.Creating.{enrolled}
use Rattle.px_cluster.specs.Jobs.{ended_job, with_end_booked, without_job}
use Rattle.px_cluster.specs.Numbers.{is_one_of}
use Rattle.px_cluster.specs.Ops.{left_by}
use Rattle.px_cluster.specs.Pushes.{beginning, begun_at, drawn_for_members, prepared_outcome}
use Rattle.px_cluster.specs.Repairs.{settled}
use Rattle.px_cluster.specs.Taking.{Drop, Next, PassOver, Take, Taking, book_as_taken, dequeued, dequeued_by, next_job, taken_in}
use Rattle.cluster_form.specs.Books.{storages_in}
use Rattle.cluster_form.proofs.Lists.{if_kept, map_kept, some_is}

abbrev pub assignments : Repository → List Bool
assignments repo = map (λ (replica : Replica). replica.assigned) repo.replicas

pub record IsAlike (old new : Repository) : Type 0 where
  pub virt : new.virt ≡ old.virt
  pub path : new.path ≡ old.path
  pub storages : storages_in new ≡ storages_in old
  pub assigned : assignments new ≡ assignments old

abbrev pub AreAlike : List Repository → List Repository → Type 0
AreAlike [] [] = Unit {0}
AreAlike [] (new ∷ news) = ⊥
AreAlike (book ∷ books) [] = ⊥
AreAlike (book ∷ books) (new ∷ news) = IsAlike book new × AreAlike books news

pub alike_self : (book : Repository) → IsAlike book book
alike_self book = record { virt = refl; path = refl; storages = refl; assigned = refl }

pub all_alike : (books : List Repository) → AreAlike books books
all_alike [] = tt
all_alike (book ∷ books) = (alike_self book, all_alike books)

one_alike : (books : List Repository) (repo : ℕ) (was new : Repository)
    → slice_get books repo ≡ Some was → IsAlike was new → AreAlike books (set books repo new)
one_alike [] repo was new is alike = tt
one_alike (book ∷ books) zero was new is alike =
    (subst (λ (b : Repository). IsAlike b new) (sym (some_is book was is)) alike, all_alike books)
one_alike (book ∷ books) (suc repo) was new is alike =
    (alike_self book, one_alike books repo was new is alike)

-- ---- a change of replicas

-- it changes neither the storage nor whether that is assigned
pub record LeavesReplica (change : Replica → Replica) : Type 0 where
  pub storage : (r : Replica) → (change r).storage ≡ r.storage
  pub assigned : (r : Replica) → (change r).assigned ≡ r.assigned

plain : (change : Replica → Replica) → ((r : Replica) → (change r).storage ≡ r.storage)
    → ((r : Replica) → (change r).assigned ≡ r.assigned) → LeavesReplica change
plain change storage assigned = record { storage = storage; assigned = assigned }

-- .. where a test passes
where_passes : (test : Replica → Bool) (change : Replica → Replica) → LeavesReplica change
    → LeavesReplica (λ r. if test r then change r else r)
where_passes test change leaves = record {
  storage = λ r. if_kept (λ (x : Replica). x.storage) (test r) (change r) r (leaves.storage r);
  assigned = λ r. if_kept (λ (x : Replica). x.assigned) (test r) (change r) r (leaves.assigned r);
}

with_replicas : (change : Replica → Replica) → LeavesReplica change → (book new : Repository)
    → new.virt ≡ book.virt → new.path ≡ book.path → new.replicas ≡ map change book.replicas
    → IsAlike book new
with_replicas change leaves book new virt path is = record {
  virt = virt;
  path = path;
  storages = (λ i. map (λ (r : Replica). r.storage) (is i))
      ∙ map_kept (λ (r : Replica). r.storage) change leaves.storage book.replicas;
  assigned = (λ i. map (λ (r : Replica). r.assigned) (is i))
      ∙ map_kept (λ (r : Replica). r.assigned) change leaves.assigned book.replicas;
}

abbrev pub MakesAlike : (Repository → Repository) → Type 0
MakesAlike change = (book : Repository) → IsAlike book (change book)

on_one : (storage : ℕ) (change : Replica → Replica) → LeavesReplica change
    → MakesAlike (with_replica_on storage change)
on_one storage change leaves book =
    with_replicas _ (where_passes (is_on storage) change leaves) book _ refl refl refl

leaves_enrolled : LeavesReplica enrolled
leaves_enrolled = where_passes (λ r. is_absent r.booking) _ (plain _ (λ r. refl) (λ r. refl))

leaves_doubt : (push : OpenPush) (vote : Voting) (due : ℕ)
    → LeavesReplica (in_doubt_if_told push vote due)
leaves_doubt push vote due = where_passes (λ r. is_told push vote r.storage)
    (in_doubt push.lease due) (plain _ (λ r. refl) (λ r. refl))

-- ---- votes

late_cast : (push : OpenPush) (vote : Voting) (storage : Option ℕ) (before : _) (now : Outcome)
    → MakesAlike (booked_by_outcomes push vote storage (outcome.Commit before) now)
late_cast push vote None before now book = alike_self book
late_cast push vote (Some storage) before now book =
    on_one storage _ (leaves_doubt push vote book.newest) book

by_outcomes : (push : OpenPush) (vote : Voting) (storage : Option ℕ) (before now : Outcome)
    → MakesAlike (booked_by_outcomes push vote storage before now)
by_outcomes push vote storage outcome.Open (outcome.Commit hash) book =
    with_replicas _ (leaves_doubt push vote _) book _ refl refl refl
by_outcomes push vote storage (outcome.Commit before) now book =
    late_cast push vote storage before now book
by_outcomes push vote storage before now book = alike_self book

confirming : (push : OpenPush) (storage : Option ℕ) → MakesAlike (confirmed_on push storage)
confirming push None book = alike_self book
confirming push (Some storage) book =
    on_one storage (confirmed push.lease) (plain _ (λ r. refl) (λ r. refl)) book

if_it_holds : (holds : Bool) (change : Repository → Repository) → MakesAlike change
    → MakesAlike (if holds then change else (λ book. book))
if_it_holds true change alike book = alike book
if_it_holds false change alike book = alike_self book

by_commit : (push : OpenPush) (storage : Option ℕ) (hash : Hash) (now : Outcome)
    → MakesAlike (booked_by_commit push storage hash now)
by_commit push storage hash (outcome.Commit decided_) book =
    if_it_holds (same_hash decided_ hash) (confirmed_on push storage) (confirming push storage) book
by_commit push storage hash now book = alike_self book

by_cast : (push : OpenPush) (name : List ℕ) (phase : Phase) (hash : Hash) (old new : Voting)
    → MakesAlike (booked_by push name phase hash old new)
by_cast push name Prepared hash old new book = by_outcomes push new (member_named push old name)
    (prepared_outcome old) (prepared_outcome new) book
by_cast push name Committed hash old new book =
    by_commit push (member_named push old name) hash (prepared_outcome old) book

-- ---- leases

draws : (storage : ℕ) → MakesAlike (with_lease_for storage)
draws storage book = with_replicas _
    (where_passes (is_on storage) (drawn_for (book.last + 1)) (plain _ (λ r. refl) (λ r. refl)))
    book _ refl refl refl

trans : (a b c : Repository) → IsAlike a b → IsAlike b c → IsAlike a c
trans a b c one other = record {
  virt = other.virt ∙ one.virt;
  path = other.path ∙ one.path;
  storages = other.storages ∙ one.storages;
  assigned = other.assigned ∙ one.assigned;
}

by_taking : (job : Job) (kind : JobKind) → MakesAlike (book_as_taken job kind)
by_taking job Update book = draws job.target.0 book
by_taking job Delete book = trans book (with_lease_for job.target.0 book) _
    (draws job.target.0 book)
    (on_one job.target.0 _ (plain _ (λ r. refl) (λ r. refl)) (with_lease_for job.target.0 book))

drawn : (push : OpenPush) → MakesAlike (drawn_for_members push)
drawn push book = with_replicas _
    (where_passes (λ r. is_one_of r.storage push.members) (drawn_for push.lease)
    (plain _ (λ r. refl) (λ r. refl))) book _ refl refl refl

-- ---- cores

abbrev pub IsAlikeCore : Core → Core → Type 0
IsAlikeCore old new =
    AreAlike old.repositories new.repositories × (new.storages ≡ old.storages)

stays : (core : Core) → IsAlikeCore core core
stays core = (all_alike core.repositories, refl)

changed_by : (core : Core) (repo : ℕ) (change : Repository → Repository) → MakesAlike change
    → (there : Option Repository) → repository core repo ≡ there
    → IsAlikeCore core (with_repository_by there repo change core)
changed_by core repo change alike None is = stays core
changed_by core repo change alike (Some was) is =
    (one_alike core.repositories repo was (change was) is (alike was), refl)

changed : (core : Core) (repo : ℕ) (change : Repository → Repository) → MakesAlike change
    → IsAlikeCore core (with_book_changed repo change core)
changed core repo change alike = changed_by core repo change alike (repository core repo) refl

cast_booked : (core : Core) (push : Option OpenPush) (name : List ℕ) (phase : Phase) (hash : Hash)
    (old new : Voting) → IsAlikeCore core (with_cast_booked push name phase hash old new core)
cast_booked core None name phase hash old new = stays core
cast_booked core (Some push) name phase hash old new =
    changed core push.repo (booked_by push name phase hash old new)
    (by_cast push name phase hash old new)

cast : (core : Core) (tx : TxId) (name : List ℕ) (phase : Phase) (hash : Hash)
    (vote : Option Voting) → IsAlikeCore core (cast_on tx name phase hash vote core)
cast core tx name phase hash None = stays core
cast core tx name phase hash (Some old) = cast_booked (record core { transactions = _ })
    (push_of core tx) name phase hash old (after_cast name phase hash old)

begun : (core : Core) (repo : ℕ) (there : Option Repository) → repository core repo ≡ there
    → IsAlikeCore core (begun_at repo there core)
begun core repo None is = stays core
begun core repo (Some was) is = (
  one_alike core.repositories repo was _ is (drawn (beginning core repo was) was),
  refl,
)

taken : (core : Core) (job : Job) (source : Option ℕ) (now : ℕ) (there : Option Repository)
    → repository core job.repo.0 ≡ there → IsAlikeCore core (taken_in there job source now core)
taken core job source now None is = stays core
taken core job source now (Some book) is =
    changed_by core job.repo.0 _ (by_taking job job.kind) (Some book) is

dequeued_so : (core : Core) (next : Option Next) (now : ℕ)
    → IsAlikeCore core (dequeued next now core)
dequeued_so core None now = stays core
dequeued_so core (Some next) now = by_what next.taking
  where
    by_what : (taking : Taking) → IsAlikeCore core (dequeued_by next.job taking now core)
    by_what PassOver = stays core
    by_what Drop = stays core
    by_what (Take source) =
        taken core next.job source now (repository core next.job.repo.0) refl

ended_so : (core : Core) (good : Bool) (job : Option Job)
    → IsAlikeCore core (ended_job good job core)
ended_so core good None = stays core
ended_so core true (Some job) = by_kind job.kind
  where
    by_kind : (kind : JobKind)
        → IsAlikeCore core (with_end_booked job kind (without_job job.number core))
    by_kind Update = changed (without_job job.number core) job.repo.0 _
        (on_one job.target.0 _ (plain _ (λ r. refl) (λ r. refl)))
    by_kind Delete = stays core
ended_so core false (Some job) = stays core

-- an operation that neither admits a storage nor creates a repository nor sets a factor
abbrev pub IsPlain : Op → Type 0
IsPlain (op.Admit virt name) = ⊥
IsPlain (op.Create virt path factor) = ⊥
IsPlain (op.SetFactor repo factor) = ⊥
IsPlain other = Unit {0}

pub left_alike : (core : Core) (asked : Op) → IsPlain asked → IsAlikeCore core (left_by core asked)
left_alike core (op.Admit virt name) is = absurd is
left_alike core (op.Health storage up) is = stays core
left_alike core (op.Open threshold rounds voters) is = stays core
left_alike core (op.Cast tx voter phase hash) is = cast core tx voter phase hash (voting core tx)
left_alike core (op.Withdraw tx voter) is = stays core
left_alike core (op.Cancel tx) is = stays core
left_alike core (op.Stop tx) is = stays core
left_alike core (op.Collect tx voter sub) is = stays core
left_alike core (op.Outcome tx sub) is = stays core
left_alike core (op.Close tx) is = stays core
left_alike core (op.Create virt path factor) is = absurd is
left_alike core (op.Enrol repo storage lease) is =
    changed core repo.0 _ (on_one storage.0 enrolled leaves_enrolled)
left_alike core (op.Begin repo) is = begun core repo.0 (repository core repo.0) refl
left_alike core (op.Finish tx) is = stays core
left_alike core (op.Dequeue target now) is = dequeued_so core (next_job core target.0) now
left_alike core (op.Beat job lease now) is = stays core
left_alike core (op.Ack job lease good) is = ended_so core good (job_at core job.0)
left_alike core (op.Stale now span) is = stays core
left_alike core (op.Reconcile only) is = stays core
left_alike core (op.RouteRead repo) is = stays core
left_alike core (op.SetFactor repo factor) is = absurd is
left_alike core (op.AcceptBegin repo storage) is =
    changed (record core { jobs = _ }) repo.0 _ (draws storage.0)
left_alike core (op.Accept repo storage lease) is = changed (record core { jobs = _ }) repo.0 _
    (λ book. with_replicas _
    (where_passes (is_on storage.0) (booked _) (plain _ (λ r. refl) (λ r. refl))) book _ refl refl
    refl)
left_alike core (op.SettleBegin repo storage) is =
    changed (record core { jobs = _ }) repo.0 _ (draws storage.0)
left_alike core (op.Settle repo storage lease last) is =
    changed (record core { jobs = _ }) repo.0 _
    (on_one storage.0 (settled last) (plain _ (λ r. refl) (λ r. refl)))
left_alike core (op.Booked repo) is = stays core
left_alike core (op.Find virt path) is = stays core
left_alike core (op.Holder repo) is = stays core
