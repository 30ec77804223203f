-- The job of a repository and target, in a queue in order, and after one of its jobs changed
-- or went.
use Rattle.std.proofs.Common.{◌≡◌, ◌==◌, ◌&&◌, ◌⊎◌, ℕ, not, List, [], ◌∷◌, Bool, true, false, if◌then◌else◌, Option, None, Some, refl, sym, ◌∙◌, ap, subst, inl, inr, find, filter, map}
use Rattle.std.specs.List.{AllByRecursion}
use Rattle.std.specs.Option.{option_map}
use Rattle.px_ops.specs.declared.job.Job.{Job}
use Rattle.px_cluster.specs.Jobs.{is_for}
use Rattle.cluster_form.specs.Jobs.{AreInOrder, IsBehind}
use Rattle.cluster_form.proofs.Among.{IsAmong, among_has, only_one}
use Rattle.cluster_form.proofs.JobLists.{LeavesJob, pair_back, pair_is}
use Rattle.cluster_form.proofs.Lists.{all_find, all_such, bool, choose, if_kept, same_number, same_self}
use Rattle.job_steps.proofs.Tests.{not_false, true_false}

-- a job is of its own repository and target
pair_self : (job : Job) → is_for job.repo.0 job.target.0 job ≡ true
pair_self job = rw (same_self job.repo.0) (same_self job.target.0)

-- a job is the only one of its repository and target
abbrev IsOnly : Job → List Job → Type 0
IsOnly job jobs = AllByRecursion
    (λ (other : Job). is_for job.repo.0 job.target.0 other ≡ true → other ≡ job) jobs

-- so it is in a queue in order
only_for : (job : Job) (jobs : List Job) → AreInOrder jobs → IsAmong job jobs
    → IsOnly job jobs
only_for job [] order among = absurd among
only_for job (first ∷ jobs) order (inl same) = (
  λ is. same,
  all_such (IsBehind first) _ jobs (λ later behind is. true_false _ is
      (subst (λ (x : Job). is_for x.repo.0 x.target.0 later ≡ false) same behind.another)) order.0,
)
only_for job (first ∷ jobs) order (inr among) = (
  λ is. true_false _ (pair_back job first is)
      (among_has (IsBehind first) job jobs order.0 among).another,
  only_for job jobs order.1 among,
)

-- the only one is found by them
found_for : (job : Job) (jobs : List Job) → IsOnly job jobs → IsAmong job jobs
    → find (is_for job.repo.0 job.target.0) jobs ≡ Some job
found_for job [] only among = absurd among
found_for job (first ∷ jobs) only (inl same) = rw (subst
    (λ (x : Job). is_for job.repo.0 job.target.0 x ≡ true) (sym same) (pair_self job))
    (ap Some same)
found_for job (first ∷ jobs) only (inr among) =
    elim (bool (is_for job.repo.0 job.target.0 first)) [
      | inl holds ↦ (rw holds (ap Some (only.0 holds)))
      | inr fails ↦ (rw fails (found_for job jobs only.1 among))
    ]

-- each job of a queue in order is found so
pub all_found : (jobs : List Job) → AreInOrder jobs → AllByRecursion
    (λ (job : Job). find (is_for job.repo.0 job.target.0) jobs ≡ Some job) jobs
all_found [] order = tt
all_found (first ∷ jobs) order = (
  rw (pair_self first) refl,
  later jobs order.0 (all_found jobs order.1),
)
  where
    skipped : (job : Job) → IsBehind first job → is_for job.repo.0 job.target.0 first ≡ false
    skipped job behind = elim (bool (is_for job.repo.0 job.target.0 first)) [
      | inl holds ↦ true_false _ (pair_back job first holds) behind.another
      | inr fails ↦ fails
    ]

    later : (rest : List Job) → AllByRecursion (IsBehind first) rest
        → AllByRecursion (λ (job : Job). find (is_for job.repo.0 job.target.0) jobs ≡ Some job) rest
        → AllByRecursion (λ (job : Job).
        find (is_for job.repo.0 job.target.0) (first ∷ jobs) ≡ Some job) rest
    later [] behind found = tt
    later (job ∷ rest) behind found =
        ((rw (skipped job behind.0) found.0), later rest behind.1 found.1)

-- ---- a job of the queue

-- a list that is changed, by its first element
if_mapped : (g : Job → Job) (b : Bool) (x : Job) (ys zs : Option Job) → ys ≡ option_map g zs
    → (if b then Some (g x) else ys) ≡ option_map g (if b then Some x else zs)
if_mapped g true x ys zs rest = refl
if_mapped g false x ys zs rest = rest

-- what is found among jobs that changed, but not their repository and target
found_mapped : (a b : ℕ) (g : Job → Job) → ((x : Job) → is_for a b (g x) ≡ is_for a b x)
    → (jobs : List Job)
    → find (is_for a b) (map g jobs) ≡ option_map g (find (is_for a b) jobs)
found_mapped a b g same [] = refl
found_mapped a b g same (x ∷ xs) =
    ap (λ (c : Bool). if c then Some (g x) else find (is_for a b) (map g xs)) (same x)
    ∙ if_mapped g (is_for a b x) x _ _ (found_mapped a b g same xs)

module _ (job : Job) (jobs : List Job) (order : AreInOrder jobs) (among : IsAmong job jobs) where
  abbrev has_number : Job → Bool
  has_number x = x.number.0 == job.number.0

  -- it is the only one
  only : IsOnly job jobs
  only = only_for job jobs order among

  -- and so it is found
  pub found : find (is_for job.repo.0 job.target.0) jobs ≡ Some job
  found = found_for job jobs only among

  -- it is of no other repository or target
  another : (a b : ℕ) → (a ≡ job.repo.0 → b ≡ job.target.0 → ⊥) → is_for a b job ≡ false
  another a b differs = elim (bool (is_for a b job)) [
    | inl holds ↦ (let pair = pair_is a b job holds in absurd (differs (sym pair.0) (sym pair.1)))
    | inr fails ↦ fails
  ]

  -- ---- it changes

  module _ (change : Job → Job) (leaves : LeavesJob change) where
    abbrev changes : Job → Job
    changes x = if has_number x then change x else x

    -- which changes no repository and target
    same_pair : (a b : ℕ) (x : Job) → is_for a b (changes x) ≡ is_for a b x
    same_pair a b x = if_kept (is_for a b) (has_number x) (change x) x
        (λ i. (leaves.repo x i == a) && (leaves.target x i == b))

    -- it is found as it is now
    pub changed_here :
        find (is_for job.repo.0 job.target.0) (map changes jobs) ≡ Some (change job)
    changed_here = found_mapped job.repo.0 job.target.0 changes
        (same_pair job.repo.0 job.target.0) jobs ∙ ap (option_map changes) found
        ∙ ap (λ (b : Bool). Some (if b then change job else job)) (same_self job.number.0)

    -- what is found by another repository or target stays
    pub changed_elsewhere : (a b : ℕ) → (a ≡ job.repo.0 → b ≡ job.target.0 → ⊥)
        → find (is_for a b) (map changes jobs) ≡ find (is_for a b) jobs
    changed_elsewhere a b differs =
        found_mapped a b changes (same_pair a b) jobs ∙ by (find (is_for a b) jobs) refl
      where
        by : (there : Option Job) → find (is_for a b) jobs ≡ there
            → option_map changes there ≡ there
        by None is = refl
        by (Some x) is =
            let has = all_find _ (is_for a b) jobs x (only_one job jobs order among) is in
            ap Some (choose (λ (y : Job). y ≡ x) (has_number x) (change x) x
            (λ holds. true_false (is_for a b x) has.1 (ap (is_for a b)
            (has.0 (same_number x.number.0 job.number.0 holds)) ∙ another a b differs))
            (λ fails. refl))

  -- ---- it goes

  abbrev stays : Job → Bool
  stays x = not (has_number x)

  -- without its number, none of its repository and target is left
  none_left : (xs : List Job) → IsOnly job xs
      → find (is_for job.repo.0 job.target.0) (filter stays xs) ≡ None
  none_left [] all = refl
  none_left (x ∷ xs) all =
      choose (λ ys. find (is_for job.repo.0 job.target.0) ys ≡ None) (stays x) (x ∷ filter stays xs)
      (filter stays xs) (λ kept. skipped kept (bool (is_for job.repo.0 job.target.0 x))
      (none_left xs all.1)) (λ gone. none_left xs all.1)
    where
      skipped : stays x ≡ true → (is_for job.repo.0 job.target.0 x ≡ true)
          ⊎ (is_for job.repo.0 job.target.0 x ≡ false)
          → find (is_for job.repo.0 job.target.0) (filter stays xs) ≡ None
          → find (is_for job.repo.0 job.target.0) (x ∷ filter stays xs) ≡ None
      skipped kept (inl holds) rest = true_false (stays x) kept
          (ap stays (all.0 holds) ∙ ap not (same_self job.number.0))
      skipped kept (inr fails) rest = (rw fails rest)

  -- it is found no more
  pub gone_here : find (is_for job.repo.0 job.target.0) (filter stays jobs) ≡ None
  gone_here = none_left jobs only

  -- and all others are left
  others_left : (a b : ℕ) → is_for a b job ≡ false → (xs : List Job)
      → AllByRecursion (λ (x : Job). x.number.0 ≡ job.number.0 → x ≡ job) xs
      → find (is_for a b) (filter stays xs) ≡ find (is_for a b) xs
  others_left a b fails [] all = refl
  others_left a b fails (x ∷ xs) all =
      choose (λ ys. find (is_for a b) ys ≡ find (is_for a b) (x ∷ xs)) (stays x)
      (x ∷ filter stays xs) (filter stays xs)
      (λ kept. ap (λ (o : Option Job). if is_for a b x then Some x else o)
      (others_left a b fails xs all.1))
      (λ gone. others_left a b fails xs all.1
      ∙ ap (λ (c : Bool). if c then Some x else find (is_for a b) xs) (sym (ap (is_for a b)
      (all.0 (same_number x.number.0 job.number.0 (not_false (has_number x) gone))) ∙ fails)))

  -- so what is found by another repository or target stays
  pub gone_elsewhere : (a b : ℕ) → (a ≡ job.repo.0 → b ≡ job.target.0 → ⊥)
      → find (is_for a b) (filter stays jobs) ≡ find (is_for a b) jobs
  gone_elsewhere a b differs =
      others_left a b (another a b differs) jobs (only_one job jobs order among)
