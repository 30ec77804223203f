-- The lease of an open push is used at its members alone, after each operation.
use Rattle.std.proofs.Common.{◌≡◌, ◌<◌, ◌+◌, ◌==◌, ◌⊎◌, ℕ, List, Bool, true, false, Option, None, Some, refl, sym, ◌∙◌, ap, subst, inl, inr, unwrap_or, arith}
use Rattle.std.specs.List.{AllByRecursion}
use Rattle.px_ops.specs.declared.job.Job.{Job}
use Rattle.px_ops.specs.declared.op.Op.{Op}
use Rattle.px_ops.specs.declared.op.Op.TheVariants as op
use Rattle.px_cluster.specs.Book.{Repository}
use Rattle.px_cluster.specs.Cluster.{Cluster}
use Rattle.px_cluster.specs.Core.{Core, OpenPush, push_of, repository, voting}
use Rattle.px_cluster.specs.Creating.{assigned_for, before_create, number_for, unmade}
use Rattle.px_cluster.specs.Issues.{issues, issues_begin, issues_fence, issues_taking, issues_work, issues_work_in, purpose_of}
use Rattle.px_cluster.specs.Ledger.{Creation, Fencing, Ledger, Purpose, Pushing, with_purposes}
use Rattle.px_cluster.specs.Numbers.{is_one_of}
use Rattle.px_cluster.specs.Ops.{left_by}
use Rattle.px_cluster.specs.Pushes.{beginning}
use Rattle.px_cluster.specs.Taking.{Drop, Next, PassOver, Take, Taking, next_job}
use Rattle.cluster_form.specs.Drawn.{AreOfMembers, AreUsesDrawn, IsOfMembers, is_used}
use Rattle.cluster_form.specs.Form.{IsFormed}
use Rattle.cluster_form.specs.Within.{IsPushWithin}
use Rattle.cluster_form.proofs.JobLists.{all_two}
use Rattle.cluster_form.proofs.LedgerKept.{commit_same}
use Rattle.cluster_form.proofs.LedgerUses.{used_before}
use Rattle.cluster_form.proofs.Lists.{all_such, some_is}
use Rattle.cluster_form.proofs.PushLists.{pushes_left}
use Rattle.cluster_form.proofs.Uses.{SameUses}

-- ---- leases that are drawn are none of an open push

-- what is used now was used before, or is of that repository under a lease that was not drawn before
pub record DrawsAnew (core : Core) (old new : Ledger) : Type 0 where
  pub repo : ℕ
  pub lease : ℕ
  pub anew : (book : Repository) → repository core repo ≡ Some book → book.last < lease
  pub used : (r s l : ℕ) → is_used (new r s l) ≡ true
      → (is_used (old r s l) ≡ true) ⊎ ((r ≡ repo) × (l ≡ lease))

members_stay : (core : Core) (old new : Ledger) → DrawsAnew core old new → (push : OpenPush)
    → IsPushWithin core.repositories push → IsOfMembers old push → IsOfMembers new push
members_stay core old new draws push within are storage used =
    by (draws.used push.repo storage push.lease used)
  where
    by : (is_used (old push.repo storage push.lease) ≡ true)
        ⊎ ((push.repo ≡ draws.repo) × (push.lease ≡ draws.lease))
        → is_one_of storage push.members ≡ true
    by (inl before) = are storage before
    by (inr now) = absurd (
        let above = draws.anew within.book
        (ap (repository core) (sym now.0) ∙ within.there) in
        let lease = within.lease in
        let same = now.1 in omega (arith, above, lease, same))

pub same_members : (pushes : List OpenPush) (old new : Ledger) → SameUses old new
    → AllByRecursion (IsOfMembers old) pushes → AllByRecursion (IsOfMembers new) pushes
same_members pushes old new same all = all_such (IsOfMembers old) (IsOfMembers new) pushes
    (λ push are storage used. are storage (sym (same push.repo storage push.lease) ∙ used)) all

drawn_anew : (core : Core) (ledger : Ledger) (repo : ℕ) (test : ℕ → Bool) (lease : ℕ)
    (change : ℕ → Purpose → Purpose)
    → ((book : Repository) → repository core repo ≡ Some book → book.last < lease)
    → DrawsAnew core ledger (with_purposes ledger repo test lease change)
drawn_anew core ledger repo test lease change anew = record {
  repo = repo;
  lease = lease;
  anew = anew;
  used = λ r s l used. by r s l (used_before ledger repo test lease change r s l used);
}
  where
    by : (r s l : ℕ) → (is_used (ledger r s l) ≡ true) ⊎ ((r ≡ repo) × (test s ≡ true) × (l ≡ lease))
        → (is_used (ledger r s l) ≡ true) ⊎ ((r ≡ repo) × (l ≡ lease))
    by r s l (inl before) = inl before
    by r s l (inr now) = inr (now.0, now.2)

-- the lease after the last one of the repository that is there
after_last : (core : Core) (repo : ℕ) (book : Repository) → repository core repo ≡ Some book
    → (found : Repository) → repository core repo ≡ Some found → found.last < book.last + 1
after_last core repo book is found there =
    let same = some_is book found (sym is ∙ there) in
    let last = ap (λ (b : Repository). b.last) same in omega (arith, last)

-- ---- what an operation issues

-- the pushes that were open before it have what they had
abbrev StayOf : Core → Ledger → Ledger → Type 0
StayOf core old new = AllByRecursion (IsOfMembers old) core.pushes
    → AllByRecursion (IsOfMembers new) core.pushes

module _ (c : Cluster) (within : AllByRecursion (IsPushWithin c.core.repositories) c.core.pushes)
  where
    by_draw : (new : Ledger) → DrawsAnew c.core c.ledger new → StayOf c.core c.ledger new
    by_draw new draws all = all_two (IsPushWithin c.core.repositories) (IsOfMembers c.ledger)
        (IsOfMembers new) c.core.pushes (members_stay c.core c.ledger new draws) within all

    by_begin : (repo : ℕ) (there : Option Repository) → repository c.core repo ≡ there
        → StayOf c.core c.ledger (issues_begin c repo there).ledger
    by_begin repo None is all = all
    by_begin repo (Some book) is all = by_draw _ (drawn_anew c.core c.ledger repo
        (λ storage. is_one_of storage (beginning c.core repo book).members) (book.last + 1)
        (λ storage old. Pushing book.newest None false) (after_last c.core repo book is)) all

    by_fence : (repo storage : ℕ) (there : Option Repository) → repository c.core repo ≡ there
        → StayOf c.core c.ledger (issues_fence c repo storage there).ledger
    by_fence repo storage None is all = all
    by_fence repo storage (Some book) is all = by_draw _ (drawn_anew c.core c.ledger repo
        (λ s. s == storage) (book.last + 1) (λ s old. Fencing None) (after_last c.core repo book is))
        all

    by_work_in : (job : Job) (source : Option ℕ) (there : Option Repository)
        → repository c.core job.repo.0 ≡ there
        → StayOf c.core c.ledger (issues_work_in c job source there).ledger
    by_work_in job source None is all = all
    by_work_in job source (Some book) is all = by_draw _ (drawn_anew c.core c.ledger job.repo.0
        (λ s. s == job.target.0) (book.last + 1) (λ s old. purpose_of job book source)
        (after_last c.core job.repo.0 book is)) all

    by_work : (next : Option Next) → StayOf c.core c.ledger (issues_work c next).ledger
    by_work None all = all
    by_work (Some next) all = by next.taking
      where
        by : (taking : Taking)
            → AllByRecursion (IsOfMembers (issues_taking c next.job taking).ledger) c.core.pushes
        by PassOver = all
        by Drop = all
        by (Take source) =
            by_work_in next.job source (repository c.core next.job.repo.0) refl all

    by_create : (virt path : List ℕ) (factor : ℕ)
        → StayOf c.core c.ledger (issues c (op.Create virt path factor)).ledger
    by_create virt path factor all = by_draw _ (drawn_anew c.core c.ledger
        (number_for c.core virt path)
        (λ storage. is_one_of storage (assigned_for c.core virt factor))
        ((before_create c.core virt path).last + 1) (λ storage old. Creation false)
        (λ book is. let last = ap
        (λ (o : Option Repository). (unwrap_or o (unmade c.core virt path)).last) is in
        omega (arith, last))) all

    pub issued_members : (asked : Op) → StayOf c.core c.ledger (issues c asked).ledger
    issued_members (op.Create virt path factor) all = by_create virt path factor all
    issued_members (op.Begin repo) all = by_begin repo.0 (repository c.core repo.0) refl all
    issued_members (op.Collect tx voter sub) all = same_members c.core.pushes c.ledger _
        (commit_same c voter sub (push_of c.core tx) (voting c.core tx)) all
    issued_members (op.Dequeue target now) all = by_work (next_job c.core target.0) all
    issued_members (op.AcceptBegin repo storage) all =
        by_fence repo.0 storage.0 (repository c.core repo.0) refl all
    issued_members (op.SettleBegin repo storage) all =
        by_fence repo.0 storage.0 (repository c.core repo.0) refl all
    issued_members (op.Admit virt name) all = all
    issued_members (op.Health storage up) all = all
    issued_members (op.Open threshold rounds voters) all = all
    issued_members (op.Cast tx voter phase hash) all = all
    issued_members (op.Withdraw tx voter) all = all
    issued_members (op.Cancel tx) all = all
    issued_members (op.Stop tx) all = all
    issued_members (op.Outcome tx sub) all = all
    issued_members (op.Close tx) all = all
    issued_members (op.Enrol repo storage lease) all = all
    issued_members (op.Finish tx) all = all
    issued_members (op.Beat job lease now) all = all
    issued_members (op.Ack job lease good) all = all
    issued_members (op.Stale now span) all = all
    issued_members (op.Reconcile only) all = all
    issued_members (op.RouteRead repo) all = all
    issued_members (op.SetFactor repo factor) all = all
    issued_members (op.Accept repo storage lease) all = all
    issued_members (op.Settle repo storage lease last) all = all
    issued_members (op.Booked repo) all = all
    issued_members (op.Find virt path) all = all
    issued_members (op.Holder repo) all = all

-- ---- a push that begins

-- its lease was not used before, and is now at its members
begun_members : (c : Cluster) (repo : ℕ) (book : Repository) → repository c.core repo ≡ Some book
    → AreUsesDrawn c.core c.ledger
    → IsOfMembers (issues_begin c repo (Some book)).ledger (beginning c.core repo book)
begun_members c repo book is drawn storage used = by (used_before c.ledger repo
    (λ s. is_one_of s (beginning c.core repo book).members) (book.last + 1)
    (λ s old. Pushing book.newest None false) repo storage (book.last + 1) used)
  where
    by : (is_used (c.ledger repo storage (book.last + 1)) ≡ true)
        ⊎ ((repo ≡ repo)
        × (is_one_of storage (beginning c.core repo book).members ≡ true)
        × (book.last + 1 ≡ book.last + 1))
        → is_one_of storage (beginning c.core repo book).members ≡ true
    by (inl before) = absurd (
        let was = drawn repo storage (book.last + 1) before in
        let same = some_is was.home.book book (sym was.home.there ∙ is) in
        let last = ap (λ (b : Repository). b.last) same in
        let within = was.drawn in omega (arith, last, within))
    by (inr now) = now.1

-- ---- each operation

pub members_left : (c : Cluster) (asked : Op) → IsFormed c.core → AreUsesDrawn c.core c.ledger
    → AreOfMembers c.core c.ledger
    → AreOfMembers (left_by c.core asked) (issues c asked).ledger
members_left c asked form drawn are = pushes_left (IsOfMembers (issues c asked).ledger)
    (λ push canceled stopped is. is) c.core asked
    (λ repo book is begins. subst (λ (o : Op).
    IsOfMembers (issues c o).ledger (beginning c.core repo book)) (sym begins)
    (subst (λ (there : Option Repository).
    IsOfMembers (issues_begin c repo there).ledger (beginning c.core repo book)) (sym is)
    (begun_members c repo book is drawn)))
    (issued_members c form.within.pushes asked are)
