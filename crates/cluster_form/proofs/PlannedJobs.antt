-- What the reconciler plans: ready jobs of repositories and targets that hold no lock, no two of one.
use Rattle.std.proofs.Common.{◌==◌, ◌≡◌, ◌<◌, ◌≤◌, ◌+◌, ◌&&◌, ◌||◌, ◌⊎◌, ℕ, zero, suc, not, List, [], ◌∷◌, ◌++◌, Bool, true, false, Option, None, Some, refl, sym, subst, inl, inr, map, flat_map, take, slice_get, arith}
use Rattle.std.specs.List.{AllByRecursion}
use Rattle.px_ops.specs.declared.job.Job.{Job}
use Rattle.px_ops.specs.declared.job.JobKind.{JobKind}
use Rattle.px_ops.specs.declared.job.JobKind.TheVariants.{Update, Delete}
use Rattle.px_cluster.specs.Book.{Replica, Repository, Storage, is_absent, is_newest, is_of}
use Rattle.px_cluster.specs.Core.{Core, is_in_push, is_up, repository}
use Rattle.px_cluster.specs.Jobs.{are_assigned_newest, holds_lock, is_dead, is_for, is_locked, sources_for}
use Rattle.px_cluster.specs.Numbers.{first_of, is_one_of, places_from}
use Rattle.px_cluster.specs.Plan.{all_planned, new_job, planned_at, planned_for, planned_from, planned_in, update_from, wanted_at}
use Rattle.cluster_form.specs.Books.{IsDense, storages_in}
use Rattle.cluster_form.proofs.JobLists.{AreDistinct, pair_is}
use Rattle.cluster_form.proofs.Lists.{all_both, all_got, all_such, bool, both_left, both_right, choose, same_self}
use Rattle.cluster_form.proofs.OneOf.{all_taken, or_later}

-- ---- the storages of replicas rise

abbrev pub AreRising : List ℕ → Type 0
AreRising [] = Unit {0}
AreRising (n ∷ ns) = AllByRecursion (λ later. n < later) ns × AreRising ns

places_from_on : {A : Type 0} (n : ℕ) (test : A → Bool) (xs : List A)
    → AllByRecursion (λ place. n ≤ place) (places_from n test xs)
places_from_on n test [] = tt
places_from_on n test (x ∷ xs) =
    let later = all_such (λ place. n + 1 ≤ place) (λ place. n ≤ place)
    (places_from (n + 1) test xs) (λ place above. omega (arith, above))
    (places_from_on (n + 1) test xs) in
    choose (AllByRecursion (λ place. n ≤ place)) (test x) (n ∷ places_from (n + 1) test xs)
    (places_from (n + 1) test xs) (λ holds. (omega arith, later)) (λ fails. later)

places_rise : {A : Type 0} (n : ℕ) (test : A → Bool) (xs : List A)
    → AreRising (places_from n test xs)
places_rise n test [] = tt
places_rise n test (x ∷ xs) = choose AreRising (test x) (n ∷ places_from (n + 1) test xs)
    (places_from (n + 1) test xs) (λ holds. (
      all_such (λ place. n + 1 ≤ place) (λ place. n < place)
          (places_from (n + 1) test xs) (λ place above. omega (arith, above))
          (places_from_on (n + 1) test xs),
      places_rise (n + 1) test xs,
    ))
    (λ fails. places_rise (n + 1) test xs)

pub storages_rise : (storages : List Storage) (book : Repository) → IsDense storages book
    → AreRising (storages_in book)
storages_rise storages book dense =
    subst AreRising (sym dense) (places_rise 0 (is_of book.virt) storages)

pub all_one : (ns : List ℕ) → AllByRecursion (λ n. is_one_of n ns ≡ true) ns
all_one [] = tt
all_one (n ∷ ns) = (
  rw (same_self n) refl,
  all_such _ _ ns (λ other is. or_later (n == other) _ is) (all_one ns),
)

-- ---- at most one job is planned for a replica

pub record IsNew (core : Core) (repo : ℕ) (book : Repository) (storage : ℕ) (job : Job)
    : Type 0 where
  pub repo_ : job.repo.0 ≡ repo
  pub target_ : job.target.0 ≡ storage
  pub generation : job.generation.0 ≡ book.newest
  pub lease : job.lease ≡ 0
  pub queued : (holds_lock job.state || is_dead job.state) ≡ true
  pub unlocked : is_locked core repo storage ≡ false

abbrev OneAtMost : (Job → Type 0) → List Job → Type 0
OneAtMost P [] = Unit {0}
OneAtMost P (job ∷ []) = P job
OneAtMost P (job ∷ other ∷ jobs) = ⊥

not_true : (b : Bool) → not b ≡ true → b ≡ false
not_true true is = absurd (let z : false ≡ true = is in cc)
not_true false is = refl

module _ (core : Core) (repo : ℕ) (book : Repository) where
  abbrev OneNew : Replica → List Job → Type 0
  OneNew replica jobs = OneAtMost (IsNew core repo book replica.storage) jobs

  module _ (replica : Replica) (unlocked : is_locked core repo replica.storage ≡ false) where
    is_new : (kind : JobKind) (source : Option ℕ)
        → IsNew core repo book replica.storage (new_job kind repo book replica.storage source)
    is_new kind source = record {
      repo_ = refl;
      target_ = refl;
      generation = refl;
      lease = refl;
      queued = refl;
      unlocked = unlocked;
    }

    one_update : (source : Option ℕ)
        → OneNew replica (update_from source repo book replica.storage)
    one_update None = tt
    one_update (Some source) = is_new Update (Some source)

    one_wanted : OneNew replica (wanted_at core repo book replica)
    one_wanted = choose (OneNew replica) replica.assigned _ _
        (λ holds. choose (OneNew replica) (is_newest book replica) _ _ (λ newest. tt)
        (λ behind. one_update (first_of (sources_for core book replica.storage))))
        (λ fails. choose (OneNew replica)
        (is_absent replica.booking || not (are_assigned_newest book)) _ _ (λ none. tt)
        (λ some. is_new Delete None))

  one_planned : (replica : Replica) → OneNew replica (planned_at core repo book replica)
  one_planned replica = choose (OneNew replica)
      (is_up core replica.storage && not (is_locked core repo replica.storage)
      && not (is_in_push core repo replica.storage)) _ _
      (λ holds. one_wanted replica (not_true (is_locked core repo replica.storage)
      (both_right (is_up core replica.storage) (not (is_locked core repo replica.storage))
      (both_left (is_up core replica.storage && not (is_locked core repo replica.storage)) _
      holds)))) (λ fails. tt)

  -- ---- in a repository

  all_of_one : (P Q : Job → Type 0) → ((job : Job) → P job → Q job) → (jobs : List Job)
      → OneAtMost P jobs → AllByRecursion Q jobs
  all_of_one P Q on [] one = tt
  all_of_one P Q on (job ∷ []) one = (on job one, tt)
  all_of_one P Q on (job ∷ other ∷ jobs) one = absurd one

  for_each : (P : Job → Type 0) (Of : ℕ → Type 0)
      → ((storage : ℕ) (job : Job) → Of storage → IsNew core repo book storage job → P job)
      → (replicas : List Replica)
      → AllByRecursion Of (map (λ (r : Replica). r.storage) replicas)
      → AllByRecursion P (flat_map (planned_at core repo book) replicas)
  for_each P Of on [] all = tt
  for_each P Of on (r ∷ rs) all =
      all_both P (planned_at core repo book r) (flat_map (planned_at core repo book) rs)
      (all_of_one (IsNew core repo book r.storage) P (λ job is. on r.storage job all.0 is)
      (planned_at core repo book r) (one_planned r)) (for_each P Of on rs all.1)

  one_and_others : (storage : ℕ) (jobs others : List Job)
      → OneAtMost (IsNew core repo book storage) jobs
      → AllByRecursion (λ (job : Job). storage < job.target.0) others → AreDistinct others
      → AreDistinct (jobs ++ others)
  one_and_others storage [] others one above distinct = distinct
  one_and_others storage (job ∷ []) others one above distinct = (
    all_such _ _ others (λ later target. another later target
        (bool (is_for job.repo.0 job.target.0 later))) above,
    distinct,
  )
    where
      another : (later : Job) → storage < later.target.0
          → (is_for job.repo.0 job.target.0 later ≡ true)
          ⊎ (is_for job.repo.0 job.target.0 later ≡ false)
          → is_for job.repo.0 job.target.0 later ≡ false
      another later target (inl holds) =
          let pair = pair_is job.repo.0 job.target.0 later holds in
          absurd (omega (arith, target, pair.1, one.target_))
      another later target (inr fails) = fails
  one_and_others storage (job ∷ other ∷ jobs) others one above distinct = absurd one

  distinct_in : (replicas : List Replica) → AreRising (map (λ (r : Replica). r.storage) replicas)
      → AreDistinct (flat_map (planned_at core repo book) replicas)
  distinct_in [] rise = tt
  distinct_in (r ∷ rs) rise = one_and_others r.storage (planned_at core repo book r)
      (flat_map (planned_at core repo book) rs) (one_planned r)
      (for_each (λ (job : Job). r.storage < job.target.0) (λ storage. r.storage < storage)
      (λ storage job above is. omega (arith, above, is.target_)) rs rise.0)
      (distinct_in rs rise.1)

  pub all_planned_for : (P : Job → Type 0)
      → ((storage : ℕ) (job : Job) → is_one_of storage (storages_in book) ≡ true
      → IsNew core repo book storage job → P job) → AllByRecursion P (planned_for core repo book)
  all_planned_for P on = for_each P (λ storage. is_one_of storage (storages_in book) ≡ true) on
      book.replicas (all_one (storages_in book))

-- ---- in all repositories

distinct_both : (jobs others : List Job) → AreDistinct jobs → AreDistinct others
    → AllByRecursion (λ (job : Job). AllByRecursion
    (λ (later : Job). is_for job.repo.0 job.target.0 later ≡ false) others) jobs
    → AreDistinct (jobs ++ others)
distinct_both [] others one other all = other
distinct_both (job ∷ jobs) others one other all = (
  all_both _ jobs others one.0 all.0,
  distinct_both jobs others one.1 other all.1,
)

other_repo : (repo : ℕ) (job later : Job) → job.repo.0 ≡ repo → repo < later.repo.0
    → is_for job.repo.0 job.target.0 later ≡ false
other_repo repo job later is above = by (bool (is_for job.repo.0 job.target.0 later))
  where
    by : (is_for job.repo.0 job.target.0 later ≡ true)
        ⊎ (is_for job.repo.0 job.target.0 later ≡ false)
        → is_for job.repo.0 job.target.0 later ≡ false
    by (inl holds) = let pair = pair_is job.repo.0 job.target.0 later holds in
        absurd (omega (arith, is, above, pair.0))
    by (inr fails) = fails

module _ (core : Core) (P : Job → Type 0)
    (on : (repo : ℕ) (book : Repository) → repository core repo ≡ Some book
    → AllByRecursion P (planned_for core repo book)) where
  -- the list from a number on is the rest of the book
  abbrev IsRest : ℕ → List Repository → Type 0
  IsRest n books = (i : ℕ) (book : Repository) → slice_get books i ≡ Some book
      → repository core (n + i) ≡ Some book

  rest_on : (n : ℕ) (book : Repository) (books : List Repository) → IsRest n (book ∷ books)
      → IsRest (n + 1) books
  rest_on n book books rest i found is =
      subst (λ m. repository core m ≡ Some found)
      (let same : n + suc i ≡ n + 1 + i = omega arith in same) (rest (suc i) found is)

  first_of_rest : (n : ℕ) (book : Repository) (books : List Repository) → IsRest n (book ∷ books)
      → repository core n ≡ Some book
  first_of_rest n book books rest = subst (λ m. repository core m ≡ Some book)
      (let same : n + 0 ≡ n = omega arith in same) (rest 0 book refl)

  all_from : (n : ℕ) (books : List Repository) → IsRest n books
      → AllByRecursion P (planned_from core n books)
  all_from n [] rest = tt
  all_from n (book ∷ books) rest = all_both P (planned_for core n book)
      (planned_from core (n + 1) books) (on n book (first_of_rest n book books rest))
      (all_from (n + 1) books (rest_on n book books rest))

  all_in : (repo : ℕ) (there : Option Repository) → repository core repo ≡ there
      → AllByRecursion P (planned_in core repo there)
  all_in repo None is = tt
  all_in repo (Some book) is = on repo book is

  -- what is true of each job that is planned for a repository is true of all that is planned
  pub all_of_books : (only : Option ℕ) → AllByRecursion P (all_planned core only)
  all_of_books None = all_from 0 core.repositories (λ i book is.
      subst (λ m. repository core m ≡ Some book) (let same : i ≡ 0 + i = omega arith in same) is)
  all_of_books (Some repo) = all_in repo (repository core repo) refl

-- each of them is new in its repository
pub all_of_plan : (core : Core) (P : Job → Type 0) → ((repo : ℕ) (book : Repository)
    (storage : ℕ) (job : Job) → repository core repo ≡ Some book
    → is_one_of storage (storages_in book) ≡ true → IsNew core repo book storage job → P job)
    → (only : Option ℕ) → AllByRecursion P (all_planned core only)
all_of_plan core P on = all_of_books core P (λ repo book there. all_planned_for core repo book P
    (λ storage job among new. on repo book storage job there among new))

from_number_on : (core : Core) (n : ℕ) (books : List Repository)
    → AllByRecursion (λ (job : Job). n ≤ job.repo.0) (planned_from core n books)
from_number_on core n [] = tt
from_number_on core n (book ∷ books) = all_both _ (planned_for core n book)
    (planned_from core (n + 1) books)
    (all_planned_for core n book _ (λ storage job among is. let same = is.repo_ in omega (arith, same)))
    (all_such (λ (job : Job). n + 1 ≤ job.repo.0) _ (planned_from core (n + 1) books)
    (λ job above. omega (arith, above)) (from_number_on core (n + 1) books))

distinct_from : (core : Core) (n : ℕ) (books : List Repository)
    → AllByRecursion (IsDense core.storages) books → AreDistinct (planned_from core n books)
distinct_from core n [] dense = tt
distinct_from core n (book ∷ books) dense =
    distinct_both (planned_for core n book) (planned_from core (n + 1) books)
    (distinct_in core n book book.replicas (storages_rise core.storages book dense.0))
    (distinct_from core (n + 1) books dense.1)
    (all_planned_for core n book _ (λ storage job among is.
    all_such (λ (later : Job). n + 1 ≤ later.repo.0) _ (planned_from core (n + 1) books)
    (λ later above. other_repo n job later is.repo_ (omega (arith, above)))
    (from_number_on core (n + 1) books)))

distinct_in_one : (core : Core) (repo : ℕ) (there : Option Repository)
    → repository core repo ≡ there → AllByRecursion (IsDense core.storages) core.repositories
    → AreDistinct (planned_in core repo there)
distinct_in_one core repo None is dense = tt
distinct_in_one core repo (Some book) is dense = distinct_in core repo book book.replicas
    (storages_rise core.storages book
    (all_got (IsDense core.storages) core.repositories repo book dense is))

pub distinct_plan : (core : Core) (only : Option ℕ)
    → AllByRecursion (IsDense core.storages) core.repositories
    → AreDistinct (all_planned core only)
distinct_plan core None dense = distinct_from core 0 core.repositories dense
distinct_plan core (Some repo) dense =
    distinct_in_one core repo (repository core repo) refl dense

pub distinct_taken : (n : ℕ) (jobs : List Job) → AreDistinct jobs → AreDistinct (take n jobs)
distinct_taken zero jobs distinct = tt
distinct_taken (suc n) [] distinct = tt
distinct_taken (suc n) (job ∷ jobs) distinct =
    (all_taken _ n jobs distinct.0, distinct_taken n jobs distinct.1)
