-- The order of jobs, after the list was changed.
use Rattle.std.proofs.Common.{◌≡◌, ◌<◌, ◌≤◌, ◌+◌, ◌==◌, ◌&&◌, ℕ, List, [], ◌∷◌, ◌++◌, Bool, true, false, refl, sym, ◌∙◌, map, filter, length, arith}
use Rattle.std.specs.List.{AllByRecursion, list_any}
use Rattle.px_ops.specs.declared.job.Job.{Job}
use Rattle.px_cluster.specs.Ids.{job_id}
use Rattle.px_cluster.specs.Jobs.{is_for}
use Rattle.px_cluster.specs.Plan.{numbered}
use Rattle.cluster_form.specs.Jobs.{AreInOrder, IsBehind}
use Rattle.cluster_form.proofs.Lists.{all_both, all_filter, all_map, all_such, both_left, both_right, choose, same_number, same_self}
use Rattle.cluster_form.proofs.OneOf.{or_later}

-- ---- lists

-- each passes a test of the list, if it passes that test
pub all_any : {A : Type 0} (xs : List A)
    → AllByRecursion (λ x. (test : A → Bool) → test x ≡ true → list_any test xs ≡ true) xs
all_any [] = tt
all_any (x ∷ xs) = (
  λ test is. rw is refl,
  all_such _ _ xs (λ y later test is. or_later (test x) _ (later test is)) (all_any xs),
)

pub all_swapped : {A B : Type 0} (R : A → B → Type 0) (xs : List A) (ys : List B)
    → AllByRecursion (λ y. AllByRecursion (λ x. R x y) xs) ys
    → AllByRecursion (λ x. AllByRecursion (R x) ys) xs
all_swapped R [] ys all = tt
all_swapped R (x ∷ xs) ys all = (
  all_such _ (R x) ys (λ y each. each.0) all,
  all_swapped R xs ys (all_such _ (λ y. AllByRecursion (λ z. R z y) xs) ys (λ y each. each.1) all),
)

pub all_two : {A : Type 0} (P Q R : A → Type 0) (xs : List A) → ((x : A) → P x → Q x → R x)
    → AllByRecursion P xs → AllByRecursion Q xs → AllByRecursion R xs
all_two P Q R [] on one other = tt
all_two P Q R (x ∷ xs) on one other = (on x one.0 other.0, all_two P Q R xs on one.1 other.1)

-- ---- pairs

pub pair_is : (repo target : ℕ) (job : Job) → is_for repo target job ≡ true
    → (job.repo.0 ≡ repo) × (job.target.0 ≡ target)
pair_is repo target job is = (
  same_number job.repo.0 repo (both_left (job.repo.0 == repo) (job.target.0 == target) is),
  same_number job.target.0 target (both_right (job.repo.0 == repo) (job.target.0 == target) is),
)

pub pair_back : (a b : Job) → is_for a.repo.0 a.target.0 b ≡ true
    → is_for b.repo.0 b.target.0 a ≡ true
pair_back a b is =
    let pair = pair_is a.repo.0 a.target.0 b is in
    rw (sym pair.0) (rw (sym pair.1) (pair_self b))
  where
    pair_self : (job : Job) → is_for job.repo.0 job.target.0 job ≡ true
    pair_self job = rw (same_self job.repo.0) (same_self job.target.0)

-- ---- a map that keeps numbers and pairs

pub record LeavesJob (change : Job → Job) : Type 0 where
  pub number : (job : Job) → (change job).number.0 ≡ job.number.0
  pub repo : (job : Job) → (change job).repo.0 ≡ job.repo.0
  pub target : (job : Job) → (change job).target.0 ≡ job.target.0

pub behind_changed : (change : Job → Job) → LeavesJob change → (first later : Job)
    → IsBehind first later → IsBehind (change first) (change later)
behind_changed change leaves first later is = record {
  number = omega (arith, is.number, leaves.number first, leaves.number later);
  another = (λ i. (leaves.repo later i == leaves.repo first i)
      && (leaves.target later i == leaves.target first i)) ∙ is.another;
}

pub order_mapped : (change : Job → Job) → LeavesJob change → (jobs : List Job) → AreInOrder jobs
    → AreInOrder (map change jobs)
order_mapped change leaves [] order = tt
order_mapped change leaves (job ∷ jobs) order = (
  all_map (IsBehind job) (IsBehind (change job)) change jobs (behind_changed change leaves job)
      order.0,
  order_mapped change leaves jobs order.1,
)

-- ---- less, and more

pub order_filtered : (test : Job → Bool) (jobs : List Job) → AreInOrder jobs
    → AreInOrder (filter test jobs)
order_filtered test [] order = tt
order_filtered test (job ∷ jobs) order = choose AreInOrder (test job) (job ∷ filter test jobs)
    (filter test jobs)
    (λ holds. (all_filter (IsBehind job) test jobs order.0, order_filtered test jobs order.1))
    (λ fails. order_filtered test jobs order.1)

pub order_both : (jobs more : List Job) → AreInOrder jobs → AreInOrder more
    → AllByRecursion (λ job. AllByRecursion (IsBehind job) more) jobs → AreInOrder (jobs ++ more)
order_both [] more one other all = other
order_both (job ∷ jobs) more one other all = (
  all_both (IsBehind job) jobs more one.0 all.0,
  order_both jobs more one.1 other all.1,
)

-- ---- numbers that are given in order

-- no two are of one repository and target
abbrev pub AreDistinct : List Job → Type 0
AreDistinct [] = Unit {0}
AreDistinct (job ∷ jobs) =
    AllByRecursion (λ later. is_for job.repo.0 job.target.0 later ≡ false) jobs × AreDistinct jobs

-- what does not speak of the number stays true
pub all_numbered : (P : Job → Type 0)
    → ((job : Job) (n : ℕ) → P job → P (record job { number = job_id n })) → (last : ℕ)
    → (jobs : List Job) → AllByRecursion P jobs → AllByRecursion P (numbered last jobs)
all_numbered P stays last [] all = tt
all_numbered P stays last (job ∷ jobs) all =
    (stays job (last + 1) all.0, all_numbered P stays (last + 1) jobs all.1)

pub numbers_above : (last : ℕ) (jobs : List Job)
    → AllByRecursion (λ (job : Job). last < job.number.0) (numbered last jobs)
numbers_above last [] = tt
numbers_above last (job ∷ jobs) = (
  omega arith,
  all_such (λ (x : Job). last + 1 < x.number.0) (λ (x : Job). last < x.number.0)
      (numbered (last + 1) jobs) (λ x above. omega (arith, above)) (numbers_above (last + 1) jobs),
)

pub numbers_within : (last : ℕ) (jobs : List Job) → AllByRecursion
    (λ (job : Job). job.number.0 ≤ last + length (numbered last jobs)) (numbered last jobs)
numbers_within last [] = tt
numbers_within last (job ∷ jobs) = (
  omega arith,
  all_such (λ (x : Job). x.number.0 ≤ last + 1 + length (numbered (last + 1) jobs)) _
      (numbered (last + 1) jobs) (λ x within. omega (arith, within))
      (numbers_within (last + 1) jobs),
)

pub order_numbered : (last : ℕ) (jobs : List Job) → AreDistinct jobs
    → AreInOrder (numbered last jobs)
order_numbered last [] distinct = tt
order_numbered last (job ∷ jobs) distinct = (
  all_two (λ (x : Job). last + 1 < x.number.0)
      (λ (x : Job). is_for job.repo.0 job.target.0 x ≡ false) _ (numbered (last + 1) jobs)
      (λ x number another. record { number = number; another = another })
      (numbers_above (last + 1) jobs)
      (all_numbered _ (λ x n is. is) (last + 1) jobs distinct.0),
  order_numbered (last + 1) jobs distinct.1,
)
