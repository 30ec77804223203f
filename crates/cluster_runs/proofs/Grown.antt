-- What every move keeps: a repository stays on record, on its storages, and the transaction of a push
-- leads on to where it led.
use Rattle.std.proofs.Common.{◌≡◌, ◌≤◌, ◌+◌, ◌==◌, ◌⊎◌, ℕ, List, [], ◌∷◌, Option, Some, refl, sym, ◌∙◌, ap, subst, inl, inr, arith}
use Rattle.px_ops.specs.declared.op.Op.{Op}
use Rattle.px_ops.specs.declared.op.Op.TheVariants as op
use Rattle.px_cluster.proofs.Growing.{grows, left, stays}
use Rattle.px_cluster.specs.Astray.{Move, MovesOn}
use Rattle.px_cluster.specs.Book.{Repository}
use Rattle.px_cluster.specs.Cluster.{Cluster, Destination, with_value}
use Rattle.px_cluster.specs.Core.{Core, repository}
use Rattle.px_cluster.specs.Growth.{Grows, IsLater}
use Rattle.px_cluster.specs.Ids.{repo_id}
use Rattle.px_cluster.specs.Issues.{issues, issues_begin}
use Rattle.px_cluster.specs.Ops.{left_by}
use Rattle.cluster_form.specs.Always.{IsKept}
use Rattle.cluster_form.specs.Homes.{IsHome}
use Rattle.cluster_form.proofs.Homes.{home_again, home_left}
use Rattle.cluster_form.proofs.Lists.{bool, same_number}
use Rattle.cluster_form.proofs.PushRoutes.{pushed_by}
use Rattle.cluster_form.proofs.Uses.{uses_kept}
use Rattle.cluster_form.proofs.WithinLists.{later_there}
use Rattle.cluster_runs.specs.Later.{NewestNeverFalls}

-- ---- repositories

-- it is on record, as it was or further on
pub record IsOn (was : Repository) (cluster : Cluster) (repo : ℕ) : Type 0 where
  pub now : Repository
  pub there : repository cluster.core repo ≡ Some now
  pub later : IsLater was now

even_later : (a b c : Repository) → IsLater a b → IsLater b c → IsLater a c
even_later a b c first then_ = record {
  virt = then_.virt ∙ first.virt;
  path = then_.path ∙ first.path;
  newest = (let x = first.newest in let y = then_.newest in omega (arith, x, y));
  last = (let x = first.last in let y = then_.last in omega (arith, x, y));
}

pub itself : (book : Repository) → IsLater book book
itself book = record { virt = refl; path = refl; newest = omega arith; last = omega arith }

pub on_record : (was : Repository) (repo : ℕ) → IsKept (λ cluster. IsOn was cluster repo)
on_record was repo = uses_kept (λ cluster. IsOn was cluster repo)
    (λ old new core uses pushed worked is. record {
      now = is.now;
      there = ap (λ c. repository c repo) core ∙ is.there;
      later = is.later;
    })
    (λ old asked none is.
    let later = later_there old.core.repositories (left_by old.core asked).repositories
    (left old.core asked).0 repo is.now is.there in
    record {
      now = later.0;
      there = later.1;
      later = even_later was is.now later.0 is.later later.2;
    })
    (λ old is. record { now = is.now; there = is.there; later = is.later })

-- ---- the book, and numbers that were given

grows_on : (a b c : Core) → Grows a b → Grows b c → Grows a c
grows_on a b c first then_ = record {
  books = λ repo book there.
      let on = first.books repo book there in
      let later = then_.books repo on.book on.there in
      record {
        book = later.book;
        there = later.there;
        later = even_later book on.book later.book on.later later.later;
      };
  last_tx = (let x = first.last_tx in let y = then_.last_tx in omega (arith, x, y));
  last_job = (let x = first.last_job in let y = then_.last_job in omega (arith, x, y));
}

growth_stays : (start : Core) → IsKept (λ cluster. Grows start cluster.core)
growth_stays start = uses_kept (λ cluster. Grows start cluster.core)
    (λ old new core uses pushed worked is. subst (Grows start) (sym core) is)
    (λ old asked none is. grows_on start old.core (left_by old.core asked) is
    (grows old.core (left_by old.core asked) (left old.core asked)))
    (λ old is. record {
      books = λ repo book there.
          let on = is.books repo book there in
          record { book = on.book; there = on.there; later = on.later };
      last_tx = is.last_tx;
      last_job = is.last_job;
    })

grown_on : (start : Core) (old new : Cluster) (moves : List Move) → Grows start old.core
    → MovesOn old moves new → Grows start new.core
grown_on start old new [] grown is =
    subst (λ (c : Cluster). Grows start c.core) (sym is) grown
grown_on start old new (move ∷ moves) grown is =
    grown_on start is.0 new moves (growth_stays start old is.0 move grown is.1) is.2

pub newest_never_falls : NewestNeverFalls
newest_never_falls old new moves is =
    grown_on old.core old new moves (grows old.core old.core (stays old.core)) is

-- ---- storages

-- the storage stays one of the repository's virtual storage
pub home_stays : (repo storage : ℕ) → IsKept (λ cluster. IsHome cluster.core repo storage)
home_stays repo storage = uses_kept (λ cluster. IsHome cluster.core repo storage)
    (λ old new core uses pushed worked is. subst (λ c. IsHome c repo storage) (sym core) is)
    (λ old asked none is. home_left old.core asked repo storage is)
    (λ old is. home_again old.core repo storage is)

-- ---- transactions of pushes

-- the transaction was given, and leads there
abbrev pub LeadsThere : ℕ → Destination → Cluster → Type 0
LeadsThere tx to cluster = (cluster.pushed tx ≡ Some to) × (tx ≤ cluster.core.last_tx)

value_other : {A : Type 0} (f : ℕ → A) (number : ℕ) (value : A) (n : ℕ) → (n ≡ number → ⊥)
    → with_value f number value n ≡ f n
value_other f number value n other = elim (bool (n == number)) [
  | inl holds ↦ absurd (other (same_number n number holds))
  | inr fails ↦ (rw fails refl)
]

-- a push that begins has a new transaction
begun_elsewhere : (old : Cluster) (tx : ℕ) (to : Destination) (repo : ℕ) (book : Repository)
    → repository old.core repo ≡ Some book → LeadsThere tx to old
    → (issues old (op.Begin (repo_id repo))).pushed tx ≡ Some to
begun_elsewhere old tx to repo book there is =
    subst (λ (known : Option Repository). (issues_begin old repo known).pushed tx ≡ Some to)
    (sym there)
    (value_other old.pushed (old.core.last_tx + 1) _ tx
    (λ same. let given = is.1 in omega (arith, given, same)) ∙ is.0)

pub leads_there : (tx : ℕ) (to : Destination) → IsKept (LeadsThere tx to)
leads_there tx to = uses_kept (LeadsThere tx to)
    (λ old new core uses pushed worked is. (
      ap (λ f. f tx) pushed ∙ is.0,
      (let given = is.1 in let last = ap (λ c. c.last_tx) core in omega (arith, given, last)),
    ))
    (λ old asked none is. (
      by old asked is (pushed_by old asked),
      (let given = is.1 in let last = (left old.core asked).1 in omega (arith, given, last)),
    ))
    (λ old is. is)
  where
    by : (old : Cluster) (asked : Op) → LeadsThere tx to old
        → ((issues old asked).pushed ≡ old.pushed)
        ⊎ ((repo : ℕ) × (book : Repository) × (repository old.core repo ≡ Some book)
        × (asked ≡ op.Begin (repo_id repo)))
        → (issues old asked).pushed tx ≡ Some to
    by old asked is (inl same) = ap (λ f. f tx) same ∙ is.0
    by old asked is (inr begun) = subst (λ (o : Op). (issues old o).pushed tx ≡ Some to)
        (sym begun.3) (begun_elsewhere old tx to begun.0 begun.1 begun.2 is)
