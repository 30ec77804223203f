-- The ledger names only leases that were drawn, after each operation.
use Rattle.std.proofs.Common.{◌≡◌, ◌+◌, ◌==◌, ◌&&◌, ℕ, not, List, [], ◌∷◌, Bool, true, false, is_some, Option, None, Some, refl, sym, ◌∙◌, subst, inl, inr, find, map, arith}
use Rattle.std.specs.List.{AllByRecursion}
use Rattle.px_base.specs.declared.hash.Hash.{Hash}
use Rattle.px_ops.specs.declared.job.Job.{Job}
use Rattle.px_ops.specs.declared.job.JobKind.{JobKind}
use Rattle.px_ops.specs.declared.job.JobKind.TheVariants.{Update, Delete}
use Rattle.px_ops.specs.declared.op.Op.{Op}
use Rattle.px_ops.specs.declared.op.Op.TheVariants as op
use Rattle.px_ops.specs.declared.refusal.Refusal.{Refusal}
use Rattle.txmanager.specs.Voting.{Voting, collect_answer}
use Rattle.px_cluster.specs.Acknowledged.{event_refusal}
use Rattle.px_cluster.specs.Book.{Replica, Repository, has_replica_on, is_on, storages_of, with_lease_for}
use Rattle.px_cluster.specs.Casts.{member_named}
use Rattle.px_cluster.specs.Cluster.{Cluster}
use Rattle.px_cluster.specs.Core.{Core, OpenPush, push_of, repository, restarted, voting, with_repository_by}
use Rattle.px_cluster.specs.Creating.{assigned_for, before_create, number_for, unknown_storage}
use Rattle.px_cluster.specs.Issues.{issues, issues_begin, issues_commit, issues_commit_at, issues_fence, issues_taking, issues_work, issues_work_in, purpose_of, told_hash}
use Rattle.px_cluster.specs.Ledger.{Creation, Deleting, Fencing, Ledger, Purpose, Pushing, Unused, Updating, unused, with_commit}
use Rattle.px_cluster.specs.Members.{members}
use Rattle.px_cluster.specs.Numbers.{is_one_of}
use Rattle.px_cluster.specs.Ops.{left_by, refusal_of}
use Rattle.px_cluster.specs.Pushes.{beginning, begun_at, drawn_for_members}
use Rattle.px_cluster.specs.Jobs.{without_running}
use Rattle.px_cluster.specs.Repairs.{accept_begin_refusal, settle_begin_refusal}
use Rattle.px_cluster.specs.Refusals.{first_cause}
use Rattle.px_cluster.specs.Taking.{Drop, Next, PassOver, Take, Taking, book_as_taken, dequeued, dequeued_by, next_job, taken_in}
use Rattle.cluster_form.specs.Books.{IsDense, storages_in}
use Rattle.cluster_form.specs.Drawn.{AreUsesDrawn, IsDrawn, is_used}
use Rattle.cluster_form.specs.Form.{IsFormed}
use Rattle.cluster_form.specs.Homes.{IsHome}
use Rattle.cluster_form.proofs.Among.{among_has, next_is}
use Rattle.cluster_form.proofs.Induction.{first_none}
use Rattle.cluster_form.proofs.Lists.{all_got, bool, choose, same_number, some_is}
use Rattle.cluster_form.proofs.OneOf.{one_has}
use Rattle.cluster_form.proofs.Panels.{all_members}
use Rattle.cluster_form.proofs.PlannedJobs.{all_one}
use Rattle.cluster_form.proofs.TurnsKept.{first_holds, not_caused}
use Rattle.cluster_form.proofs.Uses.{SameUses}
use Rattle.cluster_form.proofs.WithinLists.{got_set}
use Rattle.cluster_form.proofs.LedgerUses.{all_left, created_drawn, new_drawn, same_uses}

-- ---- Begin

begun_drawn : (c : Cluster) (repo : ℕ) (there : Option Repository)
    → repository c.core repo ≡ there
    → AllByRecursion (IsDense c.core.storages) c.core.repositories
    → AreUsesDrawn (begun_at repo there c.core) c.ledger
    → AreUsesDrawn (begun_at repo there c.core) (issues_begin c repo there).ledger
begun_drawn c repo None is dense are = are
begun_drawn c repo (Some book) is dense are =
    let push = beginning c.core repo book in
    let here = all_got (IsDense c.core.storages) c.core.repositories repo book dense is in
    new_drawn (begun_at repo (Some book) c.core) c.ledger repo
    (λ storage. is_one_of storage push.members) push.lease
    (λ storage old. Pushing push.begun None false) are (λ storage among. record {
      home = record {
        book = drawn_for_members push book;
        there = got_set c.core.repositories repo book (drawn_for_members push book) is;
        home = subst (λ ns. is_one_of storage ns ≡ true) here
            (one_has (λ n. is_one_of n (storages_in book) ≡ true) (members c.core book) storage
            (all_members c.core book here _ (all_one (storages_in book))) among);
      };
      drawn = omega arith;
    })

-- ---- Collect

commit_use : (hash : Hash) (purpose : Purpose) → is_used (with_commit hash purpose) ≡ is_used purpose
commit_use hash Unused = refl
commit_use hash (Creation made) = refl
commit_use hash (Pushing begun commit answered) = refl
commit_use hash (Updating job source generation kept answered) = refl
commit_use hash (Deleting job answered) = refl
commit_use hash (Fencing last) = refl

commit_same_at : (c : Cluster) (push : OpenPush) (storage : Option ℕ) (hash : Option Hash)
    → SameUses c.ledger (issues_commit_at c push storage hash).ledger
commit_same_at c push None hash r s l = refl
commit_same_at c push (Some storage) None r s l = refl
commit_same_at c push (Some storage) (Some hash) r s l =
    choose (λ (p : Purpose). is_used p ≡ is_used (c.ledger r s l))
    ((r == push.repo) && (s == storage) && (l == push.lease)) (with_commit hash (c.ledger r s l))
    (c.ledger r s l) (λ holds. commit_use hash (c.ledger r s l)) (λ fails. refl)

pub commit_same : (c : Cluster) (name : List ℕ) (sub : ℕ) (push : Option OpenPush)
    (vote : Option Voting) → SameUses c.ledger (issues_commit c name sub push vote).ledger
commit_same c name sub None vote r s l = refl
commit_same c name sub (Some push) None r s l = refl
commit_same c name sub (Some push) (Some vote) r s l =
    choose (λ (new : Cluster). is_used (new.ledger r s l) ≡ is_used (c.ledger r s l)) (sub == 1)
    (issues_commit_at c push (member_named push vote name)
    (told_hash (collect_answer name sub vote))) c
    (λ holds. commit_same_at c push (member_named push vote name)
    (told_hash (collect_answer name sub vote)) r s l) (λ fails. refl)

-- ---- Dequeue

work_drawn_in : (c : Cluster) (job : Job) (source : Option ℕ) (now : ℕ)
    (there : Option Repository) → repository c.core job.repo.0 ≡ there
    → IsHome c.core job.repo.0 job.target.0
    → AreUsesDrawn (taken_in there job source now c.core) c.ledger
    → AreUsesDrawn (taken_in there job source now c.core) (issues_work_in c job source there).ledger
work_drawn_in c job source now None is home are = are
work_drawn_in c job source now (Some book) is home are =
    new_drawn (taken_in (Some book) job source now c.core) c.ledger job.repo.0
    (λ s. s == job.target.0) (book.last + 1) (λ s old. purpose_of job book source) are (λ storage here.
    subst (λ s. IsDrawn (taken_in (Some book) job source now c.core) job.repo.0 s (book.last + 1))
    (sym (same_number storage job.target.0 here)) (by job.kind (got_set c.core.repositories
    job.repo.0 book (book_as_taken job job.kind book) is)))
  where
    at_home : is_one_of job.target.0 (storages_of c.core.storages book.virt) ≡ true
    at_home = subst (λ (b : Repository).
        is_one_of job.target.0 (storages_of c.core.storages b.virt) ≡ true)
        (some_is home.book book (sym home.there ∙ is)) home.home

    by : (kind : JobKind) → repository (taken_in (Some book) job source now c.core) job.repo.0
        ≡ Some (book_as_taken job kind book)
        → IsDrawn (taken_in (Some book) job source now c.core) job.repo.0 job.target.0
        (book.last + 1)
    by Update place = record {
      home = record { book = book_as_taken job Update book; there = place; home = at_home };
      drawn = omega arith;
    }
    by Delete place = record {
      home = record { book = book_as_taken job Delete book; there = place; home = at_home };
      drawn = omega arith;
    }

work_drawn : (c : Cluster) (next : Option Next) (now : ℕ)
    → ((job : Next) → next ≡ Some job → IsHome c.core job.job.repo.0 job.job.target.0)
    → AreUsesDrawn (dequeued next now c.core) c.ledger
    → AreUsesDrawn (dequeued next now c.core) (issues_work c next).ledger
work_drawn c None now home are = are
work_drawn c (Some next) now home are = by next.taking are
  where
    by : (taking : Taking) → AreUsesDrawn (dequeued_by next.job taking now c.core) c.ledger
        → AreUsesDrawn (dequeued_by next.job taking now c.core)
        (issues_taking c next.job taking).ledger
    by PassOver are = are
    by Drop are = are
    by (Take source) are = work_drawn_in c next.job source now
        (repository c.core next.job.repo.0) refl (home next refl) are

-- ---- fences

found_one : (storage : ℕ) (replicas : List Replica) → is_some (find (is_on storage) replicas) ≡ true
    → is_one_of storage (map (λ (r : Replica). r.storage) replicas) ≡ true
found_one storage [] is = absurd (let z : false ≡ true = is in cc)
found_one storage (r ∷ rs) is = elim (bool (r.storage == storage)) [
  | inl holds ↦ (rw holds refl)
  | inr fails ↦ (rw fails (found_one storage rs (rw fails at is)))
]

fence_drawn : (c : Cluster) (repo storage : ℕ) (there : Option Repository)
    → repository c.core repo ≡ there
    → ((book : Repository) → there ≡ Some book → has_replica_on book storage ≡ true)
    → AllByRecursion (IsDense c.core.storages) c.core.repositories
    → AreUsesDrawn (with_repository_by there repo (with_lease_for storage)
    (without_running repo storage c.core)) c.ledger
    → AreUsesDrawn (with_repository_by there repo (with_lease_for storage)
    (without_running repo storage c.core)) (issues_fence c repo storage there).ledger
fence_drawn c repo storage None is has dense are = are
fence_drawn c repo storage (Some book) is has dense are =
    let here = all_got (IsDense c.core.storages) c.core.repositories repo book dense is in
    new_drawn _ c.ledger repo (λ s. s == storage) (book.last + 1) (λ s old. Fencing None) are (λ s same.
    subst (λ n. IsDrawn (with_repository_by (Some book) repo (with_lease_for storage)
    (without_running repo storage c.core)) repo n (book.last + 1))
    (sym (same_number s storage same)) (record {
      home = record {
        book = with_lease_for storage book;
        there = got_set c.core.repositories repo book (with_lease_for storage book) is;
        home = subst (λ ns. is_one_of storage ns ≡ true) here
            (found_one storage book.replicas (has book refl));
      };
      drawn = omega arith;
    }))

known : (core : Core) (book : Repository) (storage : ℕ) (causes : List (Option Refusal))
    → first_cause (unknown_storage core book storage ∷ causes) ≡ None
    → has_replica_on book storage ≡ true
known core book storage causes none = by (has_replica_on book storage)
    (not_caused (not (has_replica_on book storage)) _ (first_holds _ causes none).0)
  where
    by : (b : Bool) → not b ≡ false → b ≡ true
    by true is = refl
    by false is = absurd (let z : true ≡ false = is in cc)

accept_known : (core : Core) (repo storage : ℕ) (there : Option Repository)
    → accept_begin_refusal core repo there storage ≡ None → (book : Repository)
    → there ≡ Some book → has_replica_on book storage ≡ true
accept_known core repo storage None none book is = absurd (cc)
accept_known core repo storage (Some other) none book is =
    subst (λ (b : Repository). has_replica_on b storage ≡ true) (some_is other book is)
    (known core other storage _ none)

settle_known : (core : Core) (repo storage : ℕ) (there : Option Repository)
    → settle_begin_refusal core repo there storage ≡ None → (book : Repository)
    → there ≡ Some book → has_replica_on book storage ≡ true
settle_known core repo storage None none book is = absurd (cc)
settle_known core repo storage (Some other) none book is =
    subst (λ (b : Repository). has_replica_on b storage ≡ true) (some_is other book is)
    (known core other storage _ none)

-- ---- each operation

pub uses_left : (c : Cluster) (asked : Op) → event_refusal c asked ≡ None → IsFormed c.core
    → AreUsesDrawn c.core c.ledger → AreUsesDrawn (left_by c.core asked) (issues c asked).ledger
uses_left c (op.Admit virt name) none form are = all_left c.core (op.Admit virt name) c.ledger are
uses_left c (op.Health storage up) none form are =
    all_left c.core (op.Health storage up) c.ledger are
uses_left c (op.Open threshold rounds voters) none form are =
    all_left c.core (op.Open threshold rounds voters) c.ledger are
uses_left c (op.Cast tx voter phase hash) none form are =
    all_left c.core (op.Cast tx voter phase hash) c.ledger are
uses_left c (op.Withdraw tx voter) none form are =
    all_left c.core (op.Withdraw tx voter) c.ledger are
uses_left c (op.Cancel tx) none form are = all_left c.core (op.Cancel tx) c.ledger are
uses_left c (op.Stop tx) none form are = all_left c.core (op.Stop tx) c.ledger are
uses_left c (op.Collect tx voter sub) none form are =
    same_uses c.core c.ledger _ (commit_same c voter sub (push_of c.core tx) (voting c.core tx)) are
uses_left c (op.Outcome tx sub) none form are = are
uses_left c (op.Close tx) none form are = all_left c.core (op.Close tx) c.ledger are
uses_left c (op.Create virt path factor) none form are =
    new_drawn (left_by c.core (op.Create virt path factor)) c.ledger
    (number_for c.core virt path)
    (λ storage. is_one_of storage (assigned_for c.core virt factor))
    ((before_create c.core virt path).last + 1) (λ storage old. Creation false)
    (all_left c.core (op.Create virt path factor) c.ledger are)
    (created_drawn c.core virt path factor)
uses_left c (op.Enrol repo storage lease) none form are =
    all_left c.core (op.Enrol repo storage lease) c.ledger are
uses_left c (op.Begin repo) none form are =
    begun_drawn c repo.0 (repository c.core repo.0) refl form.books.dense
    (all_left c.core (op.Begin repo) c.ledger are)
uses_left c (op.Finish tx) none form are = all_left c.core (op.Finish tx) c.ledger are
uses_left c (op.Dequeue target now) none form are =
    work_drawn c (next_job c.core target.0) now (λ next is.
    among_has (λ (job : Job). IsHome c.core job.repo.0 job.target.0) next.job c.core.jobs
    form.homes (next_is c.core target.0 c.core.jobs next is))
    (all_left c.core (op.Dequeue target now) c.ledger are)
uses_left c (op.Beat job lease now) none form are =
    all_left c.core (op.Beat job lease now) c.ledger are
uses_left c (op.Ack job lease good) none form are =
    all_left c.core (op.Ack job lease good) c.ledger are
uses_left c (op.Stale now span) none form are = all_left c.core (op.Stale now span) c.ledger are
uses_left c (op.Reconcile only) none form are = all_left c.core (op.Reconcile only) c.ledger are
uses_left c (op.RouteRead repo) none form are = all_left c.core (op.RouteRead repo) c.ledger are
uses_left c (op.SetFactor repo factor) none form are =
    all_left c.core (op.SetFactor repo factor) c.ledger are
uses_left c (op.AcceptBegin repo storage) none form are =
    fence_drawn c repo.0 storage.0 (repository c.core repo.0) refl
    (accept_known c.core repo.0 storage.0 (repository c.core repo.0)
    (first_none (refusal_of c.core (op.AcceptBegin repo storage)) _ none)) form.books.dense
    (all_left c.core (op.AcceptBegin repo storage) c.ledger are)
uses_left c (op.Accept repo storage lease) none form are =
    all_left c.core (op.Accept repo storage lease) c.ledger are
uses_left c (op.SettleBegin repo storage) none form are =
    fence_drawn c repo.0 storage.0 (repository c.core repo.0) refl
    (settle_known c.core repo.0 storage.0 (repository c.core repo.0)
    (first_none (refusal_of c.core (op.SettleBegin repo storage)) _ none)) form.books.dense
    (all_left c.core (op.SettleBegin repo storage) c.ledger are)
uses_left c (op.Settle repo storage lease last) none form are =
    all_left c.core (op.Settle repo storage lease last) c.ledger are
uses_left c (op.Booked repo) none form are = are
uses_left c (op.Find virt path) none form are = are
uses_left c (op.Holder repo) none form are = are

pub uses_again : (core : Core) (ledger : Ledger) → AreUsesDrawn core ledger
    → AreUsesDrawn (restarted core) ledger
uses_again core ledger are repo storage lease used =
    let was = are repo storage lease used in
    record {
      home = record { book = was.home.book; there = was.home.there; home = was.home.home };
      drawn = was.drawn;
    }

pub no_uses : (core : Core) → AreUsesDrawn core unused
no_uses core repo storage lease used = absurd (let z : false ≡ true = used in cc)
