-- Jobs whose numbers follow a last one.
use Rattle.std.proofs.Common.{◌≡◌, ◌<◌, ◌≤◌, ◌+◌, ◌-◌, ◌++◌, ℕ, zero, suc, List, [], ◌∷◌, Some, ap, arith, length, slice_get, sym, ◌∙◌}
use Rattle.std.specs.List.{AllByRecursion}
use Rattle.px_ops.specs.declared.job.Job.{Job}
use Rattle.px_cluster.specs.Plan.{numbered}
use Rattle.cluster_form.proofs.Lists.{all_both, all_such}
use Rattle.replqueue.specs.Rows.{AreAscending}

abbrev first_number : List Job → ℕ
first_number [] = 0
first_number (job ∷ jobs) = job.number.0

abbrev rest_of : List Job → List Job
rest_of [] = []
rest_of (job ∷ jobs) = jobs

module _ (last : ℕ) (job : Job) (jobs : List Job) (is : numbered last (job ∷ jobs)
    ≡ job ∷ jobs) where
  first_follows : job.number.0 ≡ last + 1
  first_follows = sym (ap first_number is)

  rest_follows : numbered (last + 1) jobs ≡ jobs
  rest_follows = ap rest_of is

-- each has a number above the last one, and at most the last one then
pub above_last : (last : ℕ) (jobs : List Job) → numbered last jobs ≡ jobs
    → AllByRecursion (λ (job : Job). last < job.number.0) jobs
above_last last [] is = tt
above_last last (job ∷ jobs) is = (
  (let first = first_follows last job jobs is in omega (arith, first)),
  all_such _ _ jobs (λ later above. omega (arith, above))
      (above_last (last + 1) jobs (rest_follows last job jobs is)),
)

pub within_last : (last : ℕ) (jobs : List Job) → numbered last jobs ≡ jobs
    → AllByRecursion (λ (job : Job). job.number.0 ≤ last + length jobs) jobs
within_last last [] is = tt
within_last last (job ∷ jobs) is = (
  (let first = first_follows last job jobs is in omega (arith, first)),
  all_such _ _ jobs (λ later within. omega (arith, within))
      (within_last (last + 1) jobs (rest_follows last job jobs is)),
)

pub numbers_ascend : (last : ℕ) (jobs : List Job) → numbered last jobs ≡ jobs → AreAscending jobs
numbers_ascend last [] is = tt
numbers_ascend last (job ∷ jobs) is =
    let first = first_follows last job jobs is in
    let rest = rest_follows last job jobs is in (
      all_such _ _ jobs (λ later above. omega (arith, above, first))
          (above_last (last + 1) jobs rest),
      numbers_ascend (last + 1) jobs rest,
    )

-- the number at a place
number_at : (last : ℕ) (jobs : List Job) (i : ℕ) (job : Job) → numbered last jobs ≡ jobs
    → slice_get jobs i ≡ Some job → job.number.0 ≡ last + i + 1
number_at last [] i job is there = absurd (cc)
number_at last (first ∷ jobs) zero job is there =
    let same : first ≡ job = cc in
    let follows = first_follows last first jobs is in
    ap (λ (one : Job). one.number.0) (sym same) ∙ omega (arith, follows)
number_at last (first ∷ jobs) (suc i) job is there =
    let later = number_at (last + 1) jobs i job (rest_follows last first jobs is) there in
    omega (arith, later)

pub last_number : (last : ℕ) (jobs : List Job) (job : Job) → numbered last jobs ≡ jobs
    → slice_get jobs (length jobs - 1) ≡ Some job
    → job.number.0 ≡ last + length jobs
last_number last [] job is there = absurd (cc)
last_number last (first ∷ jobs) job is there =
    let at = number_at last (first ∷ jobs) (length (first ∷ jobs) - 1) job is there in
    omega (arith, at)

-- jobs whose numbers follow come after those that have one
pub follow_ascend : (last : ℕ) (jobs more : List Job) → AreAscending jobs
    → AllByRecursion (λ (job : Job). job.number.0 ≤ last) jobs
    → numbered last more ≡ more → AreAscending (jobs ++ more)
follow_ascend last [] more ascend given is = numbers_ascend last more is
follow_ascend last (job ∷ jobs) more ascend given is = (
  all_both (λ (later : Job). job.number.0 < later.number.0) jobs more ascend.0
      (all_such _ (λ (later : Job). job.number.0 < later.number.0) more (λ later above. let before =
      given.0 in omega (arith, above, before)) (above_last last more is)),
  follow_ascend last jobs more ascend.1 given.1 is,
)
