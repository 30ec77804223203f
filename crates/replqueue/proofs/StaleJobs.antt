-- Stale jobs: their numbers in turn, and what is left of them after a bad end.
use Rattle.std.proofs.Common.{◌≡◌, ◌<◌, ◌≤◌, ◌+◌, ◌==◌, ◌&&◌, ℕ, List, [], ◌∷◌, Bool, true, false, None, Some, refl, ap, sym, ◌∙◌, inl, inr, arith, map, subst}
use Rattle.std.specs.Prelude.{filter, find, if◌then◌else◌, nat_le}
use Rattle.std.specs.List.{AllByRecursion}
use Rattle.std.proofs.lemmas.Bool.{cases_Bool}
use Rattle.std.proofs.lemmas.Bool.Decides.{nat_tests}
use Rattle.px_ops.specs.declared.job.Job.{Job}
use Rattle.px_cluster.specs.Jobs.{failed, is_in_progress, is_stale}
use Rattle.cluster_form.proofs.Lists.{all_find, all_such, both_left, same_self}
use Rattle.replqueue.specs.Rows.{AreAscending, changed_at}
use Rattle.replqueue.specs.Search.{passes_from}
use Rattle.replqueue.proofs.Orders.{none_found, none_pass}
use Rattle.replqueue.proofs.Searches.{before, from_zero, reaches, within}

-- who passes has a bad end, all others are as before
abbrev pub ended : (Job → Bool) → Job → Job
ended test job = if test job then failed job else job

-- ---- in turn

-- tests that agree on each element leave the same
filter_same : {A : Type 0} (p q : A → Bool) (xs : List A) → AllByRecursion (λ x. p x ≡ q x) xs
    → filter p xs ≡ filter q xs
filter_same p q [] all = refl
filter_same p q (x ∷ xs) all = rw (all.0, filter_same p q xs all.1) refl

-- what agrees on each element maps alike
map_along : {A : Type 0} (g f h : A → A) (xs : List A) → AllByRecursion (λ x. f (g x) ≡ h x) xs
    → map f (map g xs) ≡ map h xs
map_along g f h [] all = refl
map_along g f h (x ∷ xs) all = λ i. all.0 i ∷ map_along g f h xs all.1 i

module _ (test : Job → Bool) where
  past_one : (number from : ℕ) (job : Job) → from ≤ number → number < job.number.0
      → passes_from from test job ≡ passes_from (number + 1) test job
  past_one number from job under above =
      ap (λ b. b && test job) (within from job.number.0 (omega (arith, under, above))
      ∙ sym (within (number + 1) job.number.0 (omega (arith, above))))

  none_before : (number : ℕ) (job : Job) → job.number.0 < number + 1
      → passes_from (number + 1) test job ≡ false
  none_before number job below = rw (before (number + 1) job.number.0 below) refl

  -- the first that passes, from a number on, comes before those after it
  pub first_then_rest : (from : ℕ) (jobs : List Job) (job : Job) → AreAscending jobs
      → find (passes_from from test) jobs ≡ Some job
      → filter (passes_from from test) jobs ≡ job ∷ filter (passes_from (job.number.0 + 1) test)
      jobs
  first_then_rest from [] job ascend is = absurd (cc)
  first_then_rest from (first ∷ jobs) job ascend is =
      elim (cases_Bool (passes_from from test first)) [
        | inl t ↦
            (let found : Some first ≡ Some job = rw t at is in
            let one : first ≡ job = cc in
            let under : from ≤ first.number.0 =
            reaches from first.number.0 (both_left (nat_le from first.number.0) (test first) t) in
            subst (λ (found : Job). filter (passes_from from test) (first ∷ jobs)
            ≡ found ∷ filter (passes_from (found.number.0 + 1) test) (first ∷ jobs)) one
            (rw (t, none_before first.number.0 first (omega arith))
            (ap (λ (rest : List Job). first ∷ rest)
            (filter_same _ _ jobs
            (all_such _ _ jobs (λ later above. past_one first.number.0 from later under above)
            ascend.0)))))
        | inr f ↦
            (let later : find (passes_from from test) jobs ≡ Some job = rw f at is in
            let below : first.number.0 < job.number.0 =
            (all_find (λ (other : Job). first.number.0 < other.number.0) _ jobs job ascend.0
            later).0 in
            rw (f, none_before job.number.0 first (omega (arith, below)))
            (first_then_rest from jobs job ascend.1 later))
      ]

  -- where none passes from a number on, none is left
  pub none_left : (from : ℕ) (jobs : List Job) → find (passes_from from test) jobs ≡ None
      → filter (passes_from from test) jobs ≡ []
  none_left from jobs none = none_pass _ jobs (none_found _ jobs none)

  -- from 0 on, all are left
  pub all_from_zero : (jobs : List Job) → filter (passes_from 0 test) jobs ≡ filter test jobs
  all_from_zero [] = refl
  all_from_zero (job ∷ jobs) = rw (from_zero job.number.0, all_from_zero jobs) refl

  -- ---- a bad end in turn

  -- from 0 on, all have one
  pub ended_from_zero : (jobs : List Job) → map (ended (passes_from 0 test)) jobs
      ≡ map (ended test) jobs
  ended_from_zero [] = refl
  ended_from_zero (job ∷ jobs) = rw (from_zero job.number.0, ended_from_zero jobs) refl

  -- where none passes, all are as they were
  pub none_ends : (jobs : List Job) → find test jobs ≡ None → map (ended test) jobs ≡ jobs
  none_ends jobs none = stay jobs (none_found test jobs none)
    where
      stay : (jobs : List Job) → AllByRecursion (λ (job : Job). test job ≡ false) jobs
          → map (ended test) jobs ≡ jobs
      stay [] all = refl
      stay (job ∷ jobs) all = rw (all.0, stay jobs all.1) refl

  end_later : (number from : ℕ) (job : Job) → from ≤ number → number < job.number.0
      → ended (passes_from (number + 1) test) (changed_at number failed job)
      ≡ ended (passes_from from test) job
  end_later number from job under above =
      rw (apart number job.number.0 above, past_one number from job under above) refl
    where
      apart : (number n : ℕ) → number < n → (n == number) ≡ false
      apart number n above = grind (arith, nat_tests)

  end_this : (job : Job)
      → ended (passes_from (job.number.0 + 1) test) (changed_at job.number.0 failed job)
      ≡ failed job
  end_this job = rw (same_self job.number.0, none_before job.number.0 (failed job) (omega arith))
      refl

  end_earlier : (number : ℕ) (job : Job) → job.number.0 < number
      → ended (passes_from (number + 1) test) (changed_at number failed job) ≡ job
  end_earlier number job below =
      rw (apart number job.number.0 below, none_before number job (omega (arith, below))) refl
    where
      apart : (number n : ℕ) → n < number → (n == number) ≡ false
      apart number n below = grind (arith, nat_tests)

  -- the first has its bad end, then those after it
  pub one_ended : (from : ℕ) (jobs : List Job) (job : Job) → AreAscending jobs
      → find (passes_from from test) jobs ≡ Some job
      → map (ended (passes_from (job.number.0 + 1) test)) (map (changed_at job.number.0 failed)
      jobs) ≡ map (ended (passes_from from test)) jobs
  one_ended from [] job ascend is = absurd (cc)
  one_ended from (first ∷ jobs) job ascend is = elim (cases_Bool (passes_from from test first)) [
    | inl t ↦
        (let found : Some first ≡ Some job = rw t at is in
        let one : first ≡ job = cc in
        let under : from ≤ first.number.0 =
        reaches from first.number.0 (both_left (nat_le from first.number.0) (test first) t) in
        subst (λ (found : Job). map (ended (passes_from (found.number.0 + 1) test))
        (map (changed_at found.number.0 failed) (first ∷ jobs))
        ≡ map (ended (passes_from from test)) (first ∷ jobs)) one
        (rw t (λ i. end_this first i
        ∷ map_along (changed_at first.number.0 failed)
        (ended (passes_from (first.number.0 + 1) test)) (ended (passes_from from test)) jobs
        (all_such _ _ jobs (λ later above. end_later first.number.0 from later under above)
        ascend.0) i)))
    | inr f ↦
        (let later : find (passes_from from test) jobs ≡ Some job = rw f at is in
        let below : first.number.0 < job.number.0 =
        (all_find (λ (other : Job). first.number.0 < other.number.0) _ jobs job ascend.0
        later).0 in
        rw f (λ i. end_earlier job.number.0 first below i ∷ one_ended from jobs job ascend.1 later
        i))
  ]

  -- it is none of those after it
  pub left_behind : (number : ℕ) (jobs : List Job)
      → filter (passes_from (number + 1) test) (map (changed_at number failed) jobs)
      ≡ filter (passes_from (number + 1) test) jobs
  left_behind number [] = refl
  left_behind number (job ∷ jobs) = elim (cases_Bool (job.number.0 == number)) [
    | inl t ↦ (let near : job.number.0 < number + 1 = within_one job.number.0 t in
        rw (t, none_before number (failed job) near, none_before number job near)
        (left_behind number jobs))
    | inr f ↦ rw (f, left_behind number jobs) refl
  ]
    where
      within_one : (n : ℕ) → (n == number) ≡ true → n < number + 1
      within_one n is = grind (arith, nat_tests)

-- ---- stale jobs

pub works : (time silence : ℕ) (job : Job) → is_stale time silence job ≡ true
    → is_in_progress job.state ≡ true
works time silence job is = elim (cases_Bool (is_in_progress job.state)) [
  | inl t ↦ t
  | inr f ↦ absurd (let no : false ≡ true = rw f at is in cc)
]
