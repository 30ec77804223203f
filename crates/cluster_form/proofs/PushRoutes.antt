-- Where the effects of pushes go stays so, after each operation and a restart.
use Rattle.std.proofs.Common.{◌≡◌, ◌+◌, ◌==◌, ◌⊎◌, ℕ, [], ◌∷◌, Option, None, Some, refl, sym, ◌∙◌, ap, subst, inl, inr, arith}
use Rattle.std.specs.List.{AllByRecursion}
use Rattle.px_ops.specs.declared.job.Job.{Job}
use Rattle.px_ops.specs.declared.op.Op.{Op}
use Rattle.px_ops.specs.declared.op.Op.TheVariants as op
use Rattle.px_base.specs.declared.hash.Hash.{Hash}
use Rattle.txmanager.specs.Voting.{Voting, collect_answer}
use Rattle.px_cluster.proofs.Growing.{left}
use Rattle.px_cluster.specs.Book.{Repository}
use Rattle.px_cluster.specs.Casts.{member_named}
use Rattle.px_cluster.specs.Cluster.{Cluster, Destination, with_value}
use Rattle.px_cluster.specs.Core.{Core, OpenPush, push_of, repository, restarted, voting}
use Rattle.px_cluster.specs.Ids.{repo_id}
use Rattle.px_cluster.specs.Issues.{issues, issues_begin, issues_commit, issues_commit_at, issues_fence, issues_taking, issues_work, issues_work_in, told_hash}
use Rattle.px_cluster.specs.Ops.{left_by}
use Rattle.px_cluster.specs.Pushes.{beginning, begun_at, drawn_for_members}
use Rattle.px_cluster.specs.Taking.{Drop, Next, PassOver, Take, Taking, next_job}
use Rattle.cluster_form.specs.Form.{IsFormed}
use Rattle.cluster_form.specs.Routes.{ArePushRoutes, IsPushRoute, goes_to}
use Rattle.cluster_form.specs.Turns.{IsTurn}
use Rattle.cluster_form.proofs.JobLists.{all_two}
use Rattle.cluster_form.proofs.Lists.{all_both, bool, choose, same_number, same_self, some_is}
use Rattle.cluster_form.proofs.PushLists.{pushes_left}
use Rattle.cluster_form.proofs.WithinLists.{got_set, later_there}

-- ---- routes stay

route_left : (core : Core) (asked : Op) (tx : ℕ) (to : Destination) → IsPushRoute core tx to
    → IsPushRoute (left_by core asked) tx to
route_left core asked tx to is =
    let grown = left core asked in
    let later = later_there core.repositories (left_by core asked).repositories grown.0 to.repo
    is.book is.there in
    record {
      given = (let given = is.given in let last = grown.1 in omega (arith, given, last));
      book = later.0;
      there = later.1;
      drawn = (let drawn = is.drawn in let last = later.2.last in omega (arith, drawn, last));
    }

-- ---- a function with another value at one number

-- what it has at a number is the new value, or it was there
pub value_case : {A : Type 0} (f : ℕ → Option A) (number : ℕ) (value : A) (n : ℕ) (x : A)
    → with_value f number (Some value) n ≡ Some x
    → ((n ≡ number) × (value ≡ x)) ⊎ (f n ≡ Some x)
value_case f number value n x is = elim (bool (n == number)) [
  | inl holds ↦ inl (same_number n number holds, some_is value x (rw holds at is))
  | inr fails ↦ inr (rw fails at is)
]

value_other : {A : Type 0} (f : ℕ → A) (number : ℕ) (value : A) (n : ℕ) → (n ≡ number → ⊥)
    → with_value f number value n ≡ f n
value_other f number value n other = elim (bool (n == number)) [
  | inl holds ↦ absurd (other (same_number n number holds))
  | inr fails ↦ (rw fails refl)
]

-- ---- a push that begins

module _ (c : Cluster) (repo : ℕ) (book : Repository) (is : repository c.core repo ≡ Some book)
    (routes : ArePushRoutes c.core c.pushed)
    (later : (tx : ℕ) (to : Destination) → IsPushRoute c.core tx to
    → IsPushRoute (begun_at repo (Some book) c.core) tx to)
    (turns : AllByRecursion (IsTurn c.core.storages c.core.transactions c.core.last_tx)
    c.core.pushes) where
  abbrev push : OpenPush
  push = beginning c.core repo book

  abbrev new : ℕ → Option Destination
  new = (issues_begin c repo (Some book)).pushed

  abbrev next : ℕ
  next = c.core.last_tx + 1

  begins : IsPushRoute (begun_at repo (Some book) c.core) next (goes_to push)
  begins = record {
    given = omega arith;
    book = drawn_for_members push book;
    there = got_set c.core.repositories repo book (drawn_for_members push book) is;
    drawn = omega arith;
  }

  -- no lease that was drawn before is the one of the push
  is_anew : (tx : ℕ) (to : Destination) → c.pushed tx ≡ Some to → to.repo ≡ repo
      → to.number ≡ book.last + 1 → ⊥
  is_anew tx to there at number =
      let route = routes.each tx to there in
      let same = some_is route.book book (sym route.there ∙ ap (repository c.core) at ∙ is) in
      let last = ap (λ (b : Repository). b.last) same in
      let drawn = route.drawn in omega (arith, last, drawn, number)

  repo_of : (to : Destination) → goes_to push ≡ to → to.repo ≡ repo
  repo_of to same = ap (λ (d : Destination). d.repo) (sym same)

  number_of : (to : Destination) → goes_to push ≡ to → to.number ≡ book.last + 1
  number_of to same = ap (λ (d : Destination). d.number) (sym same)

  begun_routes : ArePushRoutes (begun_at repo (Some book) c.core) new
  begun_routes = record {
    each = λ tx to there. each tx to (value_case c.pushed next (goes_to push) tx to there);
    apart = λ one other a b here there repo_ number. two one other a b
        (value_case c.pushed next (goes_to push) one a here)
        (value_case c.pushed next (goes_to push) other b there) repo_ number;
    open_ = all_both _ c.core.pushes (push ∷ []) (all_two
        (IsTurn c.core.storages c.core.transactions c.core.last_tx)
        (λ (old : OpenPush). c.pushed old.tx.0 ≡ Some (goes_to old))
        (λ (old : OpenPush). new old.tx.0 ≡ Some (goes_to old)) c.core.pushes
        (λ old turn was. value_other c.pushed next (Some (goes_to push)) old.tx.0
        (λ same. let given = turn.given in omega (arith, given, same)) ∙ was) turns routes.open_)
        (rw (same_self next) refl, tt);
  }
    where
      each : (tx : ℕ) (to : Destination)
          → ((tx ≡ next) × (goes_to push ≡ to)) ⊎ (c.pushed tx ≡ Some to)
          → IsPushRoute (begun_at repo (Some book) c.core) tx to
      each tx to (inl now) = subst (λ d. IsPushRoute (begun_at repo (Some book) c.core) tx d) now.1
          (subst (λ n. IsPushRoute (begun_at repo (Some book) c.core) n (goes_to push)) (sym now.0)
          begins)
      each tx to (inr before) = later tx to (routes.each tx to before)

      two : (one other : ℕ) (a b : Destination)
          → ((one ≡ next) × (goes_to push ≡ a)) ⊎ (c.pushed one ≡ Some a)
          → ((other ≡ next) × (goes_to push ≡ b)) ⊎ (c.pushed other ≡ Some b)
          → a.repo ≡ b.repo → a.number ≡ b.number → one ≡ other
      two one other a b (inl now) (inl also) repo_ number = now.0 ∙ sym also.0
      two one other a b (inl now) (inr before) repo_ number = absurd (is_anew other b before
          (sym repo_ ∙ repo_of a now.1) (sym number ∙ number_of a now.1))
      two one other a b (inr before) (inl now) repo_ number = absurd (is_anew one a before
          (repo_ ∙ repo_of b now.1) (number ∙ number_of b now.1))
      two one other a b (inr before) (inr also) repo_ number =
          routes.apart one other a b before also repo_ number

-- ---- each operation

-- only a push that begins is sent to members
pub pushed_by : (c : Cluster) (asked : Op) → ((issues c asked).pushed ≡ c.pushed)
    ⊎ ((repo : ℕ) × (book : Repository) × (repository c.core repo ≡ Some book)
    × (asked ≡ op.Begin (repo_id repo)))
pushed_by c (op.Begin repo) = by (repository c.core repo.0) refl
  where
    by : (there : Option Repository) → repository c.core repo.0 ≡ there
        → ((issues_begin c repo.0 there).pushed ≡ c.pushed)
        ⊎ ((at : ℕ) × (book : Repository) × (repository c.core at ≡ Some book)
        × (op.Begin repo ≡ op.Begin (repo_id at)))
    by None is = inl refl
    by (Some book) is = inr (repo.0, book, is, refl)
pushed_by c (op.Collect tx voter sub) =
    inl (by (push_of c.core tx) (voting c.core tx))
  where
    at : (push : OpenPush) (storage : Option ℕ) (hash : Option Hash)
        → (issues_commit_at c push storage hash).pushed ≡ c.pushed
    at push None hash = refl
    at push (Some storage) None = refl
    at push (Some storage) (Some hash) = refl

    by : (push : Option OpenPush) (vote : Option Voting)
        → (issues_commit c voter sub push vote).pushed ≡ c.pushed
    by None vote = refl
    by (Some push) None = refl
    by (Some push) (Some vote) = choose (λ (new : Cluster). new.pushed ≡ c.pushed) (sub == 1)
        (issues_commit_at c push (member_named push vote voter)
        (told_hash (collect_answer voter sub vote))) c
        (λ holds. at push (member_named push vote voter)
        (told_hash (collect_answer voter sub vote))) (λ fails. refl)
pushed_by c (op.Dequeue target now) = inl (by (next_job c.core target.0))
  where
    at : (job : Job) (source : Option ℕ) (there : Option Repository)
        → (issues_work_in c job source there).pushed ≡ c.pushed
    at job source None = refl
    at job source (Some book) = refl

    so : (job : Job) (taking : Taking) → (issues_taking c job taking).pushed ≡ c.pushed
    so job PassOver = refl
    so job Drop = refl
    so job (Take source) = at job source (repository c.core job.repo.0)

    by : (next : Option Next) → (issues_work c next).pushed ≡ c.pushed
    by None = refl
    by (Some next) = so next.job next.taking
pushed_by c (op.AcceptBegin repo storage) = inl (fence (repository c.core repo.0))
  where
    fence : (there : Option Repository)
        → (issues_fence c repo.0 storage.0 there).pushed ≡ c.pushed
    fence None = refl
    fence (Some book) = refl
pushed_by c (op.SettleBegin repo storage) = inl (fence (repository c.core repo.0))
  where
    fence : (there : Option Repository)
        → (issues_fence c repo.0 storage.0 there).pushed ≡ c.pushed
    fence None = refl
    fence (Some book) = refl
pushed_by c other = inl refl

pub push_routes_left : (c : Cluster) (asked : Op) → IsFormed c.core
    → ArePushRoutes c.core c.pushed
    → ArePushRoutes (left_by c.core asked) (issues c asked).pushed
push_routes_left c asked form routes = by (pushed_by c asked)
  where
    -- where the push that begins is sent nowhere else
    sent : (issues c asked).pushed ≡ c.pushed → (repo : ℕ) (book : Repository)
        → repository c.core repo ≡ Some book → asked ≡ op.Begin (repo_id repo)
        → c.pushed (c.core.last_tx + 1) ≡ Some (goes_to (beginning c.core repo book))
    sent same repo book is begins =
        let so : (issues_begin c repo (repository c.core repo)).pushed ≡ c.pushed =
        subst (λ (o : Op). (issues c o).pushed ≡ c.pushed) begins same in
        let here : (issues_begin c repo (Some book)).pushed ≡ c.pushed =
        subst (λ (there : Option Repository). (issues_begin c repo there).pushed ≡ c.pushed) is
        so in
        let is_new : (issues_begin c repo (Some book)).pushed (c.core.last_tx + 1)
        ≡ Some (goes_to (beginning c.core repo book)) =
        rw (same_self (c.core.last_tx + 1)) refl in
        sym (ap (λ (f : ℕ → Option Destination). f (c.core.last_tx + 1)) here) ∙ is_new

    by : ((issues c asked).pushed ≡ c.pushed)
        ⊎ ((repo : ℕ) × (book : Repository) × (repository c.core repo ≡ Some book)
        × (asked ≡ op.Begin (repo_id repo)))
        → ArePushRoutes (left_by c.core asked) (issues c asked).pushed
    by (inl same) = subst (ArePushRoutes (left_by c.core asked)) (sym same) (record {
      each = λ tx to there. route_left c.core asked tx to (routes.each tx to there);
      apart = routes.apart;
      open_ = pushes_left (λ (push : OpenPush). c.pushed push.tx.0 ≡ Some (goes_to push))
          (λ push canceled stopped is. is) c.core asked (sent same) routes.open_;
    })
    by (inr begun) = subst (λ (o : Op). ArePushRoutes (left_by c.core o) (issues c o).pushed)
        (sym begun.3) (subst (λ (there : Option Repository).
        ArePushRoutes (begun_at begun.0 there c.core) (issues_begin c begun.0 there).pushed)
        (sym begun.2) (begun_routes c begun.0 begun.1 begun.2 routes
        (λ tx to route. subst (λ (there : Option Repository).
        IsPushRoute (begun_at begun.0 there c.core) tx to) begun.2
        (route_left c.core (op.Begin (repo_id begun.0)) tx to route)) form.turns.each))

-- ---- a restart

pub push_routes_again : (core : Core) (pushed : ℕ → Option Destination)
    → ArePushRoutes core pushed → ArePushRoutes (restarted core) pushed
push_routes_again core pushed routes = record {
  each = λ tx to there. let route = routes.each tx to there in record {
    given = route.given;
    book = route.book;
    there = route.there;
    drawn = route.drawn;
  };
  apart = routes.apart;
  open_ = tt;
}
