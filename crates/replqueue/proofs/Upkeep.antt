-- The marks of the queue, as its jobs and their marks come and go.
use Rattle.std.proofs.Common.{◌≡◌, ◌+◌, ◌++◌, ◌≤◌, ◌==◌, ◌⊎◌, ◌∷◌, [], ℕ, List, Bool, true, false, Some, refl, sym, ◌∙◌, inl, inr, arith, length, subst, map}
use Rattle.std.specs.Prelude.{filter, find, not}
use Rattle.std.specs.List.{AllByRecursion}
use Rattle.std.proofs.lemmas.Bool.{cases_Bool}
use Rattle.std.proofs.lemmas.Bool.Decides.{nat_tests}
use Rattle.px_ops.specs.declared.job.Job.{Job}
use Rattle.px_cluster.specs.Jobs.{holds_lock, is_for, is_in_progress, is_ready}
use Rattle.px_cluster.specs.Plan.{numbered}
use Rattle.cluster_form.proofs.JobLists.{pair_is}
use Rattle.cluster_form.proofs.Lists.{all_both, all_filter, all_such, both_right}
use Rattle.replqueue.specs.declared.lines.By.TheVariants.{Pair, Target}
use Rattle.replqueue.specs.declared.mark.Mark.{Mark}
use Rattle.replqueue.specs.declared.of_pair.OfPair.{OfPair}
use Rattle.replqueue.specs.Lines.{line_by, pair_line}
use Rattle.replqueue.specs.Marks.{AreMarked, KeepsAll, KeepsOthers, has}
use Rattle.replqueue.specs.Queue.{AreKept}
use Rattle.replqueue.specs.Rows.{AreAscending, changed_at, has_number}
use Rattle.replqueue.specs.Search.{is_of, is_one}
use Rattle.replqueue.proofs.Numbered.{within_last}
use Rattle.replqueue.proofs.OneJob.{ready_rests}
use Rattle.replqueue.proofs.Orders.{all_left, all_replaced, has_its_number}

-- ---- marks that none of the jobs lost

pub marked_still : (test : Job → Bool) (line : Job → ℕ) (old new : List Mark) (jobs : List Job)
    → KeepsAll old new
    → AreMarked test line old jobs → AreMarked test line new jobs
marked_still test line old new jobs keeps marked =
    all_such _ _ jobs (λ job is passes. keeps (line job) job.number.0 (is passes)) marked

-- more marks, the same jobs
pub kept_marked : (jobs : List Job) (number : ℕ) (pairs targets running pairs_new targets_new
    running_new : List Mark)
    → KeepsAll pairs pairs_new → KeepsAll targets targets_new → KeepsAll running running_new
    → AreKept jobs number pairs targets running
    → AreKept jobs number pairs_new targets_new running_new
kept_marked jobs number pairs targets running pairs_new targets_new running_new more_pairs
    more_targets more_running kept = record {
      ascend = kept.ascend;
      given = kept.given;
      pairs = marked_still _ _ pairs pairs_new jobs more_pairs kept.pairs;
      targets = marked_still _ _ targets targets_new jobs more_targets kept.targets;
      running = marked_still _ _ running running_new jobs more_running kept.running;
    }

-- ---- without a job

apart : (a number : ℕ) → not (a == number) ≡ true → (a == number) ≡ false
apart a number is = grind (arith, nat_tests)

pub marked_without : (test : Job → Bool) (line : Job → ℕ) (number : ℕ) (old new : List Mark)
    (jobs : List Job) → KeepsOthers number old new
    → AreMarked test line old jobs
    → AreMarked test line new (filter (λ (job : Job). not (job.number.0 == number)) jobs)
marked_without test line number old new jobs keeps marked =
    all_left _ _ (λ (job : Job). not (job.number.0 == number)) jobs
    (λ job other is passes. keeps (line job) job.number.0 (apart job.number.0 number other)
    (is passes)) marked

pub kept_without : (gone : ℕ) (jobs new : List Job) (number : ℕ) (pairs targets running pairs_new
    targets_new running_new : List Mark)
    → new ≡ filter (λ (job : Job). not (job.number.0 == gone)) jobs → AreAscending new
    → KeepsOthers gone pairs pairs_new → KeepsOthers gone targets targets_new
    → KeepsOthers gone running running_new
    → AreKept jobs number pairs targets running
    → AreKept new number pairs_new targets_new running_new
kept_without gone jobs new number pairs targets running pairs_new targets_new running_new is ascend
    other_pairs other_targets other_running kept = record {
      ascend = ascend;
      given = rw is (all_filter _ _ jobs kept.given);
      pairs = rw is (marked_without _ _ gone pairs pairs_new jobs other_pairs kept.pairs);
      targets = rw is (marked_without _ _ gone targets targets_new jobs other_targets kept.targets);
      running = rw is (marked_without _ _ gone running running_new jobs other_running kept.running);
    }

-- ---- with another job in the place of one

module _ (job before : Job) (jobs : List Job) (ascend : AreAscending jobs)
    (found : find (has_number job.number.0) jobs ≡ Some before) where
  abbrev replaced : List Job
  replaced = map (changed_at job.number.0 (λ (other : Job). job)) jobs

  same_number : before.number.0 ≡ job.number.0
  same_number = has_its_number job.number.0 jobs before found

  marked_replaced : (test : Job → Bool) (line : Job → ℕ) (old new : List Mark)
      → KeepsOthers job.number.0 old new
      → (test job ≡ true → has new (line job) job.number.0 ≡ true) → AreMarked test line old jobs
      → AreMarked test line new replaced
  marked_replaced test line old new keeps here marked =
      all_replaced _ _ job.number.0 job before jobs ascend found
      (λ other another is passes. keeps (line other) other.number.0 another (is passes))
      (λ is. here) marked

  before_marked : (test : Job → Bool) (line : Job → ℕ) (old : List Mark)
      → AreMarked test line old jobs
      → test before ≡ true → has old (line before) job.number.0 ≡ true
  before_marked test line old marked passes = subst (λ (n : ℕ). has old (line before) n
      ≡ true) same_number
      (found_has _ (has_number job.number.0) jobs before found marked passes)
    where
      found_has : (P : Job → Type 0) (p : Job → Bool) (jobs : List Job) (job : Job) → find p jobs
          ≡ Some job → AllByRecursion P jobs → P job
      found_has P p [] job is all = absurd (cc)
      found_has P p (first ∷ jobs) job is all = elim (cases_Bool (p first)) [
        | inl t ↦ (let there : Some first ≡ Some job = rw t at is in let one : first ≡ job = cc in
            subst P one all.0)
        | inr f ↦ found_has P p jobs job (rw f at is) all.1
      ]

  -- the row that was there
  unmoved : (marks : List Mark) → KeepsOthers job.number.0 marks marks
  unmoved marks line other another is = is

  module _ (number : ℕ) (pairs targets running targets_new running_new : List Mark)
      (kept : AreKept jobs number pairs targets running)
      (repo : job.repo ≡ before.repo) (target : job.target ≡ before.target)
      (lock : holds_lock job.state ≡ true → holds_lock before.state ≡ true)
      (room : is_in_progress job.state ≡ true → (is_in_progress before.state ≡ true)
      ⊎ (has running 0 job.number.0 ≡ true))
      (other_targets : KeepsOthers job.number.0 targets targets_new)
      (all_targets : holds_lock job.state ≡ true → KeepsAll targets targets_new)
      (other_running : KeepsOthers job.number.0 running running_new)
      (all_running : is_in_progress job.state ≡ true → KeepsAll running running_new) where
    pair_still : has pairs (line_by Pair job) job.number.0 ≡ true
    pair_still = subst (λ (line : ℕ). has pairs line job.number.0
        ≡ true) (λ i. line_by Pair (record job { repo = sym repo i; target = sym target i }))
        (before_marked _ _ pairs kept.pairs refl)

    target_still : holds_lock job.state ≡ true → has targets_new (line_by Target job) job.number.0
        ≡ true
    target_still locked = all_targets locked (line_by Target job) job.number.0
        (subst (λ (line : ℕ). has targets line job.number.0 ≡ true) (λ i. (sym target i).0)
        (before_marked _ _ targets kept.targets (lock locked)))

    running_still : is_in_progress job.state ≡ true → has running_new 0 job.number.0 ≡ true
    running_still works = all_running works 0 job.number.0 (elim (room works) [
      | inl worked ↦ before_marked _ _ running kept.running worked
      | inr there ↦ there
    ])

    -- the marks are those of the jobs with the new one
    pub kept_replaced : (new : List Job) → new ≡ replaced → AreAscending new
        → AreKept new number pairs targets_new running_new
    kept_replaced new is ascending = record {
      ascend = ascending;
      given = rw is (all_replaced (λ (other : Job). other.number.0 ≤ number)
          (λ (other : Job). other.number.0 ≤ number) job.number.0 job before jobs ascend found
          (λ other another within. within) (λ within. subst (λ (n : ℕ). n ≤ number) same_number
          within) kept.given);
      pairs = rw is (marked_replaced _ _ pairs pairs (unmoved pairs) (λ any. pair_still)
          kept.pairs);
      targets = rw is (marked_replaced _ _ targets targets_new other_targets target_still
          kept.targets);
      running = rw is (marked_replaced _ _ running running_new other_running running_still
          kept.running);
    }

-- ---- with the jobs of a plan

pub kept_appended : (jobs more new : List Job) (last : ℕ) (pairs targets running pairs_new
    targets_new : List Mark)
    → new ≡ jobs ++ more → AreAscending new → numbered last more ≡ more
    → AllByRecursion (λ (job : Job). is_ready job.state ≡ true) more
    → KeepsAll pairs pairs_new → KeepsAll targets targets_new
    → AreMarked (λ (job : Job). true) (line_by Pair) pairs_new more
    → AreMarked (λ (job : Job). true) (line_by Target) targets_new more
    → AreKept jobs last pairs targets running
    → AreKept new (last + length more) pairs_new targets_new running
kept_appended jobs more new last pairs targets running pairs_new targets_new is ascend follow ready
    more_pairs more_targets marked_pairs marked_targets kept = record {
      ascend = ascend;
      given = rw is (all_both _ jobs more (all_such _ _ jobs (λ job within. omega (arith, within))
          kept.given) (within_last last more follow));
      pairs = rw is (all_both _ jobs more (marked_still _ _ pairs pairs_new jobs more_pairs kept.pairs)
          marked_pairs);
      targets = rw is (all_both _ jobs more (marked_still _ _ targets targets_new jobs more_targets
          kept.targets)
          (all_such _ _ more (λ job marked any. marked refl) marked_targets));
      running = rw is (all_both _ jobs more kept.running
          (all_such _ _ more (λ job ready works. ready_rests job.state ready works) ready));
    }

-- ---- who is looked for

-- each job of a repository and target is marked on their line
pub pair_marked : (pair : OfPair) (line : ℕ) (marks : List Mark) (jobs : List Job) → line
    ≡ pair_line pair.repo.0 pair.target.0
    → AreMarked (λ (job : Job). true) (line_by Pair) marks jobs
    → AreMarked (is_of pair) (λ (job : Job). line) marks jobs
pair_marked pair line marks jobs is marked = all_such _ _ jobs (λ job here passes.
    let both = pair_is pair.repo.0 pair.target.0 job (both_right (is_one pair.which job.state)
    (is_for pair.repo.0 pair.target.0 job) passes) in
    let there : line_by Pair job ≡ line = (λ i. pair_line (both.0 i) (both.1 i)) ∙ sym is in
    subst (λ (n : ℕ). has marks n job.number.0 ≡ true) there (here refl)) marked
