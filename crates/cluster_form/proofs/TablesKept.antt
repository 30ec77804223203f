-- Lists by dense numbers stay as long as they should be, and names apart, at each operation.
use Rattle.std.proofs.Common.{◌≡◌, ◌+◌, ℕ, zero, suc, List, [], ◌∷◌, ◌++◌, Bool, true, false, Option, None, Some, refl, sym, ◌∙◌, ap, subst, length, map, set, arith}
use Rattle.std.specs.Option.{option_map}
use Rattle.px_base.specs.declared.hash.Hash.{Hash}
use Rattle.px_base.specs.declared.ids.TxId.{TxId}
use Rattle.px_base.specs.declared.phase.Phase.{Phase}
use Rattle.px_ops.specs.declared.job.Job.{Job}
use Rattle.px_ops.specs.declared.job.JobKind.{JobKind}
use Rattle.px_ops.specs.declared.job.JobKind.TheVariants.{Update, Delete}
use Rattle.px_ops.specs.declared.op.Op.{Op}
use Rattle.px_ops.specs.declared.op.Op.TheVariants as op
use Rattle.px_ops.specs.declared.refusal.Refusal.{Refusal}
use Rattle.txmanager.specs.VoterCalls.{after_cast}
use Rattle.txmanager.specs.Voting.{Voting}
use Rattle.px_cluster.specs.Book.{Repository, Storage}
use Rattle.px_cluster.specs.Casts.{booked_by, cast_on, with_cast_booked}
use Rattle.px_cluster.specs.Core.{Core, OpenPush, empty, job_at, push_of, repository, restarted, voting, with_repository_by}
use Rattle.px_cluster.specs.Creating.{found, has_name, with_created}
use Rattle.px_cluster.specs.Jobs.{ended_job, with_end_booked, without_job, without_running}
use Rattle.px_cluster.specs.Numbers.{first_of, places_of}
use Rattle.px_cluster.specs.Ops.{left_by, refusal_of}
use Rattle.px_cluster.specs.Pushes.{begun_at}
use Rattle.px_cluster.specs.Refusals.{first_cause}
use Rattle.px_cluster.specs.Taking.{Drop, Next, PassOver, Take, Taking, dequeued, dequeued_by, next_job, taken_in}
use Rattle.cluster_form.specs.Tables.{AreNamesApart, AreTables}
use Rattle.cluster_form.proofs.Lists.{same_bytes}
use Rattle.cluster_form.proofs.Places.{apart_more, place_none}
use Rattle.cluster_form.proofs.TurnsKept.{first_holds}

-- ---- lengths

length_set : {A : Type 0} (xs : List A) (i : ℕ) (x : A) → length (set xs i x) ≡ length xs
length_set [] i x = refl
length_set (y ∷ ys) zero x = omega arith
length_set (y ∷ ys) (suc i) x = let rest = length_set ys i x in omega (arith, rest)

length_map : {A B : Type 0} (f : A → B) (xs : List A) → length (map f xs) ≡ length xs
length_map f [] = refl
length_map f (x ∷ xs) = let rest = length_map f xs in omega (arith, rest)

length_more : {A : Type 0} (xs : List A) (x : A) → length (xs ++ x ∷ []) ≡ length xs + 1
length_more [] x = refl
length_more (y ∷ ys) x = let rest = length_more ys x in omega (arith, rest)

-- ---- names

-- where the name of a new storage was not refused, no storage has it
fresh_name : (storages : List Storage) (virt name : List ℕ) (causes : List (Option Refusal))
    (why : ℕ → Refusal)
    → first_cause (option_map why (first_of (places_of (has_name name) storages)) ∷ causes) ≡ None
    → AreNamesApart storages
    → AreNamesApart (storages ++ record { virt = virt; name = name } ∷ [])
fresh_name storages virt name causes why none apart =
    apart_more (λ (a b : Storage). a.name ≡ b.name) (λ a b same. sym same) storages
    (record { virt = virt; name = name }) (λ i storage there same.
    place_none (has_name name) 0 storages
    (nothing (first_of (places_of (has_name name) storages)) (first_holds _ causes none).0) i
    storage there (same_bytes storage.name name same)) apart
  where
    nothing : (first : Option ℕ) → option_map why first ≡ None → first ≡ None
    nothing None is = refl
    nothing (Some place) is = absurd (cc)

-- ---- each operation

by_book : (core : Core) (repo : ℕ) (change : Repository → Repository) (there : Option Repository)
    → AreTables core → AreTables (with_repository_by there repo change core)
by_book core repo change None are = are
by_book core repo change (Some book) are = record {
  health = are.health;
  reads = are.reads ∙ sym (length_set core.repositories repo (change book));
  names = are.names;
}

-- where neither storages nor repositories, health nor counts of reads changed
same_tables : (core new : Core) → AreTables core → new.storages ≡ core.storages
    → new.repositories ≡ core.repositories → new.health ≡ core.health → new.reads ≡ core.reads
    → AreTables new
same_tables core new are storages repositories health reads = record {
  health = (λ i. length (health i)) ∙ are.health ∙ (λ i. length (sym storages i));
  reads = (λ i. length (reads i)) ∙ are.reads ∙ (λ i. length (sym repositories i));
  names = subst AreNamesApart (sym storages) are.names;
}

-- what changes other parts alone
same : (core new : Core) → AreTables core → new ≡ record core {
  jobs = new.jobs;
  last_job = new.last_job;
  last_tx = new.last_tx;
  transactions = new.transactions;
  pushes = new.pushes;
  factors = new.factors;
} → AreTables new
same core new are is = same_tables core new are (ap (λ (c : Core). c.storages) is)
    (ap (λ (c : Core). c.repositories) is) (ap (λ (c : Core). c.health) is)
    (ap (λ (c : Core). c.reads) is)

cast_booked : (core : Core) (push : Option OpenPush) (name : List ℕ) (phase : Phase) (hash : Hash)
    (old new : Voting) → AreTables core
    → AreTables (with_cast_booked push name phase hash old new core)
cast_booked core None name phase hash old new are = are
cast_booked core (Some push) name phase hash old new are =
    by_book core push.repo (booked_by push name phase hash old new) (repository core push.repo) are

cast : (core : Core) (tx : TxId) (name : List ℕ) (phase : Phase) (hash : Hash)
    (vote : Option Voting) → AreTables core → AreTables (cast_on tx name phase hash vote core)
cast core tx name phase hash None are = are
cast core tx name phase hash (Some old) are = cast_booked (record core { transactions = _ })
    (push_of core tx) name phase hash old (after_cast name phase hash old)
    (same core _ are refl)

created : (core : Core) (there : Option ℕ) (book : Repository) → AreTables core
    → AreTables (with_created there book core)
created core None book are = record {
  health = are.health;
  reads = (let more = length_more core.reads 0 in
      let books = length_more core.repositories book in
      let same = are.reads in omega (arith, more, books, same));
  names = are.names;
}
created core (Some repo) book are = record {
  health = are.health;
  reads = are.reads ∙ sym (length_set core.repositories repo book);
  names = are.names;
}

begun : (core : Core) (repo : ℕ) (there : Option Repository) → AreTables core
    → AreTables (begun_at repo there core)
begun core repo None are = are
begun core repo (Some book) are = record {
  health = are.health;
  reads = are.reads ∙ sym (length_set core.repositories repo _);
  names = are.names;
}

taken : (core : Core) (job : Job) (source : Option ℕ) (now : ℕ) (there : Option Repository)
    → AreTables core → AreTables (taken_in there job source now core)
taken core job source now None are = are
taken core job source now (Some book) are = record {
  health = are.health;
  reads = are.reads ∙ sym (length_set core.repositories job.repo.0 _);
  names = are.names;
}

dequeued_so : (core : Core) (next : Option Next) (now : ℕ) → AreTables core
    → AreTables (dequeued next now core)
dequeued_so core None now are = are
dequeued_so core (Some next) now are = by_what next.taking
  where
    by_what : (taking : Taking) → AreTables (dequeued_by next.job taking now core)
    by_what PassOver = are
    by_what Drop = same core _ are refl
    by_what (Take source) =
        taken core next.job source now (repository core next.job.repo.0) are

ended_so : (core : Core) (good : Bool) (job : Option Job) → AreTables core
    → AreTables (ended_job good job core)
ended_so core good None are = are
ended_so core true (Some job) are = by_kind job.kind
  where
    by_kind : (kind : JobKind)
        → AreTables (with_end_booked job kind (without_job job.number core))
    by_kind Update = by_book (without_job job.number core) job.repo.0 _
        (repository core job.repo.0) (same core _ are refl)
    by_kind Delete = same core _ are refl
ended_so core false (Some job) are = same core _ are refl

pub tables_left : (core : Core) (asked : Op) → refusal_of core asked ≡ None → AreTables core
    → AreTables (left_by core asked)
tables_left core (op.Admit virt name) none are = record {
  health = (let health = length_more core.health false in
      let storages = length_more core.storages (record { virt = virt; name = name }) in
      let before = are.health in omega (arith, health, storages, before));
  reads = are.reads ∙ sym (length_map _ core.repositories);
  names = fresh_name core.storages virt name _ _ none are.names;
}
tables_left core (op.Health storage up) none are = record {
  health = length_set core.health storage.0 up ∙ are.health;
  reads = are.reads;
  names = are.names;
}
tables_left core (op.Open threshold rounds voters) none are = same core _ are refl
tables_left core (op.Cast tx voter phase hash) none are =
    cast core tx voter phase hash (voting core tx) are
tables_left core (op.Withdraw tx voter) none are = same core _ are refl
tables_left core (op.Cancel tx) none are = same core _ are refl
tables_left core (op.Stop tx) none are = same core _ are refl
tables_left core (op.Collect tx voter sub) none are = are
tables_left core (op.Outcome tx sub) none are = are
tables_left core (op.Close tx) none are = same core _ are refl
tables_left core (op.Create virt path factor) none are = created core (found core virt path) _ are
tables_left core (op.Enrol repo storage lease) none are =
    by_book core repo.0 _ (repository core repo.0) are
tables_left core (op.Begin repo) none are = begun core repo.0 (repository core repo.0) are
tables_left core (op.Finish tx) none are = same core _ are refl
tables_left core (op.Dequeue target now) none are =
    dequeued_so core (next_job core target.0) now are
tables_left core (op.Beat job lease now) none are = same core _ are refl
tables_left core (op.Ack job lease good) none are = ended_so core good (job_at core job.0) are
tables_left core (op.Stale now span) none are = same core _ are refl
tables_left core (op.Reconcile only) none are = same core _ are refl
tables_left core (op.RouteRead repo) none are = record {
  health = are.health;
  reads = length_set core.reads repo.0 _ ∙ are.reads;
  names = are.names;
}
tables_left core (op.SetFactor repo factor) none are =
    by_book core repo.0 _ (repository core repo.0) are
tables_left core (op.AcceptBegin repo storage) none are =
    by_book (without_running repo.0 storage.0 core) repo.0 _ (repository core repo.0)
    (same core _ are refl)
tables_left core (op.Accept repo storage lease) none are =
    by_book (without_running repo.0 storage.0 core) repo.0 _ (repository core repo.0)
    (same core _ are refl)
tables_left core (op.SettleBegin repo storage) none are =
    by_book (without_running repo.0 storage.0 core) repo.0 _ (repository core repo.0)
    (same core _ are refl)
tables_left core (op.Settle repo storage lease last) none are =
    by_book (without_running repo.0 storage.0 core) repo.0 _ (repository core repo.0)
    (same core _ are refl)
tables_left core (op.Booked repo) none are = are
tables_left core (op.Find virt path) none are = are
tables_left core (op.Holder repo) none are = are

pub tables_again : (core : Core) → AreTables core → AreTables (restarted core)
tables_again core are = record {
  health = length_map _ core.health ∙ are.health;
  reads = length_map _ core.reads ∙ are.reads;
  names = are.names;
}

pub no_tables : AreTables empty
no_tables = record {
  health = refl;
  reads = refl;
  names = λ one other a b here there same. absurd (let z : None ≡ Some a = here in cc);
}
