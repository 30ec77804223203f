-- How the first job that passes a test is found by its mark.
use Rattle.std.proofs.Common.{◌≡◌, ◌<◌, ◌≤◌, ◌+◌, ◌==◌, ◌&&◌, ℕ, List, [], ◌∷◌, Bool, true, false, Option, None, Some, refl, ap, sym, ◌∙◌, inl, inr, arith}
use Rattle.std.specs.Prelude.{find, nat_le}
use Rattle.std.specs.List.{AllByRecursion}
use Rattle.std.specs.Option.{IfNone, IfSome, MatchOption}
use Rattle.std.proofs.lemmas.Bool.{cases_Bool}
use Rattle.std.proofs.lemmas.Bool.Decides.{nat_tests}
use Rattle.px_ops.specs.declared.job.Job.{Job}
use Rattle.cluster_form.proofs.Lists.{all_such}
use Rattle.replqueue.specs.declared.mark.Mark.{Mark}
use Rattle.replqueue.specs.Marks.{AreMarked, NoneBetween, NoneFrom, has}
use Rattle.replqueue.specs.Rows.{AreAscending, has_number}
use Rattle.replqueue.specs.Search.{if_passing, passes_from}
use Rattle.replqueue.proofs.Orders.{find_none, find_same, only_one}

-- ---- tests

pub and_true : (b : Bool) → (b && true) ≡ b
and_true true = refl
and_true false = refl

and_false : (b : Bool) → (b && false) ≡ false
and_false true = refl
and_false false = refl

pub from_zero : (n : ℕ) → nat_le 0 n ≡ true
from_zero n = grind (arith, nat_tests)

pub reaches : (from n : ℕ) → nat_le from n ≡ true → from ≤ n
reaches from n is = grind (arith, nat_tests)

misses : (from n : ℕ) → nat_le from n ≡ false → n < from
misses from n is = grind (arith, nat_tests)

pub within : (from n : ℕ) → from ≤ n → nat_le from n ≡ true
within from n is = grind (arith, nat_tests)

pub before : (from n : ℕ) → n < from → nat_le from n ≡ false
before from n is = grind (arith, nat_tests)

-- ---- by marks

module _ (test : Job → Bool) where
  -- a job that does not pass is found from nowhere
  alike : (job : Job) (a b : Bool) → (test job ≡ true → a ≡ b) → (a && test job) ≡ (b && test job)
  alike job a b same = elim (cases_Bool (test job)) [
    | inl t ↦ ap (λ c. c && test job) (same t)
    | inr f ↦ rw f (and_false a ∙ sym (and_false b))
  ]

  module _ (marks : List Mark) (line : ℕ) where
    skip_one : (from upto : ℕ) → from ≤ upto → NoneBetween marks line from upto → (job : Job)
        → (test job ≡ true → has marks line job.number.0 ≡ true) → passes_from from test job
        ≡ passes_from upto test job
    skip_one from upto under none job marked =
        alike job (nat_le from job.number.0) (nat_le upto job.number.0) (λ t.
        elim (cases_Bool (nat_le upto job.number.0)) [
          | inl far ↦ (let far_too : upto ≤ job.number.0 = reaches upto job.number.0 far in
              within from job.number.0 (omega (arith, far_too, under)) ∙ sym far)
          | inr near ↦ elim (cases_Bool (nat_le from job.number.0)) [
            | inl here ↦ absurd (let no : has marks line job.number.0 ≡ false =
                none job.number.0 (reaches from job.number.0 here) (misses upto job.number.0 near)
                in
                let yes : has marks line job.number.0 ≡ true = marked t in cc)
            | inr there ↦ there ∙ sym near
          ]
        ])

    -- numbers that are not marked are passed over
    skip : (from upto : ℕ) → from ≤ upto → NoneBetween marks line from upto → (jobs : List Job)
        → AreMarked test (λ (job : Job). line) marks jobs → find (passes_from from test) jobs
        ≡ find (passes_from upto test) jobs
    skip from upto under none jobs marked =
        find_same _ _ jobs (all_such _ _ jobs (skip_one from upto under none) marked)

    end_one : (from : ℕ) → NoneFrom marks line from → (job : Job)
        → (test job ≡ true → has marks line job.number.0 ≡ true) → passes_from from test job ≡ false
    end_one from none job marked = alike job (nat_le from job.number.0) false (λ t.
        elim (cases_Bool (nat_le from job.number.0)) [
          | inl here ↦ absurd (let no : has marks line job.number.0 ≡ false =
              none job.number.0 (reaches from job.number.0 here) in
              let yes : has marks line job.number.0 ≡ true = marked t in cc)
          | inr there ↦ there
        ])

    -- where no more are marked, none is found
    none_more : (from : ℕ) → NoneFrom marks line from → (jobs : List Job)
        → AreMarked test (λ (job : Job). line) marks jobs → find (passes_from from test) jobs ≡ None
    none_more from none jobs marked =
        find_none _ jobs (all_such _ _ jobs (end_one from none) marked)

  -- ---- the job of a number

  later_none : (number : ℕ) (first : Job) (jobs : List Job) → number < first.number.0
      → AllByRecursion (λ (later : Job). first.number.0 < later.number.0) jobs
      → find (has_number number) jobs ≡ None
  later_none number first jobs above all = find_none (has_number number) jobs
      (all_such _ _ jobs (λ later more. other later.number.0 (omega (arith, above, more))) all)
    where
      other : (n : ℕ) → number < n → (n == number) ≡ false
      other n more = grind (arith, nat_tests)

  -- it passes, so it is the first from its number on
  pub hit : (number : ℕ) (jobs : List Job) (job : Job) → AreAscending jobs
      → if_passing test (find (has_number number) jobs) ≡ Some job
      → find (passes_from number test) jobs ≡ Some job
  hit number [] job ascend is = absurd (cc)
  hit number (first ∷ jobs) job ascend is = elim (cases_Bool (first.number.0 == number)) [
    | inl t ↦ (let found : if_passing test (Some first) ≡ Some job = rw t at is in
        elim (cases_Bool (test first)) [
          | inl p ↦ (let same : Some first ≡ Some job = rw p at found in
              rw (self number first.number.0 t, p) same)
          | inr p ↦ absurd (let no : None ≡ Some job = rw p at found in cc)
        ])
    | inr f ↦ (let later : if_passing test (find (has_number number) jobs) ≡ Some job =
        rw f at is in
        elim (cases_Bool (nat_le number first.number.0)) [
          | inl far ↦ absurd (let none : find (has_number number) jobs ≡ None =
              later_none number first jobs (apart number first.number.0 far f) ascend.0 in
              let no : if_passing test None ≡ Some job = rw none at later in cc)
          | inr near ↦ rw near (hit number jobs job ascend.1 later)
        ])
  ]
    where
      self : (number n : ℕ) → (n == number) ≡ true → nat_le number n ≡ true
      self number n is = grind (arith, nat_tests)

      apart : (number n : ℕ) → nat_le number n ≡ true → (n == number) ≡ false → number < n
      apart number n far is = grind (arith, nat_tests)

  -- it does not pass, or is not there
  pub miss : (number : ℕ) (jobs : List Job) → AreAscending jobs
      → if_passing test (find (has_number number) jobs) ≡ None
      → find (passes_from number test) jobs ≡ find (passes_from (number + 1) test) jobs
  miss number jobs ascend is =
      find_same _ _ jobs (all_such _ _ jobs each (only_one number (find (has_number number) jobs)
      jobs ascend refl))
    where
      next : (n : ℕ) → (n == number) ≡ false → nat_le number n ≡ nat_le (number + 1) n
      next n other = elim (cases_Bool (nat_le number n)) [
        | inl far ↦ far ∙ sym (further n other far)
        | inr near ↦ near ∙ sym (nearer n near)
      ]
        where
          further : (n : ℕ) → (n == number) ≡ false → nat_le number n ≡ true → nat_le (number + 1) n
              ≡ true
          further n other far = grind (arith, nat_tests)

          nearer : (n : ℕ) → nat_le number n ≡ false → nat_le (number + 1) n ≡ false
          nearer n near = grind (arith, nat_tests)

      each : (job : Job) → ((job.number.0 == number) ≡ true → find (has_number number) jobs
          ≡ Some job)
          → passes_from number test job ≡ passes_from (number + 1) test job
      each job one = alike job (nat_le number job.number.0) (nat_le (number + 1) job.number.0) (λ t.
          elim (cases_Bool (job.number.0 == number)) [
            | inl same ↦ absurd (let there : if_passing test (Some job) ≡ None =
                rw (one same) at is in
                let some : Some job ≡ None = rw t at there in cc)
            | inr other ↦ next job.number.0 other
          ])

-- ---- in turn

-- what the next mark tells
pub next_told : (test : Job → Bool) (marks : List Mark) (line from : ℕ) (jobs : List Job)
    (first : Option Job) (next : Option ℕ)
    → AreMarked test (λ (job : Job). line) marks jobs → first ≡ find (passes_from from test) jobs
    → IfSome next (λ number. (from ≤ number) × NoneBetween marks line from number)
    → IfNone next (NoneFrom marks line from)
    → MatchOption next (first ≡ None) (λ number. first ≡ find (passes_from number test) jobs)
next_told test marks line from jobs first (Some number) marked is some none =
    is ∙ skip test marks line from number some.0 some.1 jobs marked
next_told test marks line from jobs first None marked is some none =
    is ∙ none_more test marks line from none jobs marked
