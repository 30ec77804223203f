-- The queue keeps its form where the plan of the reconciler comes.
use Rattle.std.proofs.Common.{◌≡◌, ◌<◌, ◌≤◌, ◌+◌, ◌-◌, ◌^◌, ◌&&◌, ◌||◌, ◌⊎◌, ℕ, not, List, [], ◌∷◌, Bool, true, false, Option, refl, sym, ◌∙◌, inl, inr, filter, length, take, arith}
use Rattle.std.specs.List.{AllByRecursion, list_any}
use Rattle.px_ops.specs.declared.job.Job.{Job}
use Rattle.px_cluster.specs.Core.{Core}
use Rattle.px_cluster.specs.Jobs.{holds_lock, is_dead, is_for, is_locked}
use Rattle.px_cluster.specs.Plan.{all_planned, is_replaced_by, plan, with_plan}
use Rattle.cluster_form.specs.Books.{IsDense}
use Rattle.cluster_form.specs.Jobs.{AreJobs, IsBehind, IsRow}
use Rattle.cluster_form.proofs.JobLists.{all_any, all_numbered, all_swapped, all_two, numbers_above, numbers_within, order_both, order_filtered, order_numbered, pair_back}
use Rattle.cluster_form.proofs.Lists.{all_both, all_filter, all_such, bool, choose}
use Rattle.cluster_form.proofs.OneOf.{all_taken}
use Rattle.cluster_form.proofs.PlannedJobs.{all_of_plan, distinct_plan, distinct_taken}

-- ---- the plan comes

module _ (core : Core) (only : Option ℕ)
    (dense : AllByRecursion (IsDense core.storages) core.repositories) (rows : AreJobs core) where
  abbrev cut : List Job
  cut = take (2 ^ 64 - 1 - core.last_job) (all_planned core only)

  abbrev planned : List Job
  planned = plan core only

  -- it is ready, and its repository and target hold no lock
  record MayCome (job : Job) : Type 0 where
    queued : (holds_lock job.state || is_dead job.state) ≡ true
    unlocked : is_locked core job.repo.0 job.target.0 ≡ false

  all_may : AllByRecursion MayCome planned
  all_may = all_numbered MayCome
      (λ job n may. record { queued = may.queued; unlocked = may.unlocked }) core.last_job cut
      (all_taken MayCome _ (all_planned core only) (all_of_plan core MayCome
      (λ repo book storage job is among new. record {
        queued = new.queued;
        unlocked = (λ i. is_locked core (new.repo_ i) (new.target_ i)) ∙ new.unlocked;
      }) only))

  abbrev stays : Job → Bool
  stays old = not (is_dead old.state && is_replaced_by planned old)

  -- it comes behind each job that stays
  module _ (new : Job) (above : core.last_job < new.number.0)
      (replaces : (old : Job) → is_for new.repo.0 new.target.0 old ≡ true
      → is_replaced_by planned old ≡ true) where
    another : (old : Job) → IsRow core.last_job old
        → (holds_lock old.state && is_for new.repo.0 new.target.0 old) ≡ false
        → stays old ≡ true → (is_for old.repo.0 old.target.0 new ≡ true)
        ⊎ (is_for old.repo.0 old.target.0 new ≡ false)
        → is_for old.repo.0 old.target.0 new ≡ false
    another old row free stay (inr fails) = fails
    another old row free stay (inl holds) = absurd (
        let pair = pair_back old new holds in
        let unlocked : holds_lock old.state ≡ false =
        free_of (holds_lock old.state) (is_for new.repo.0 new.target.0 old) pair free in
        let dead = dead_of (holds_lock old.state) (is_dead old.state) unlocked row.queued in
        gone (is_dead old.state) (is_replaced_by planned old) dead (replaces old pair) stay)
      where
        free_of : (a b : Bool) → b ≡ true → (a && b) ≡ false → a ≡ false
        free_of true b is both = absurd (let z : true ≡ false = sym is ∙ both in cc)
        free_of false b is both = refl

        dead_of : (a b : Bool) → a ≡ false → (a || b) ≡ true → b ≡ true
        dead_of true b is either = absurd (let z : true ≡ false = is in cc)
        dead_of false b is either = either

        gone : (a b : Bool) → a ≡ true → b ≡ true → not (a && b) ≡ true → ⊥
        gone true true one other is = let z : false ≡ true = is in cc
        gone true false one other is = let z : false ≡ true = other in cc
        gone false b one other is = let z : false ≡ true = one in cc

    behind_old : (olds : List Job) → AllByRecursion (IsRow core.last_job) olds
        → list_any (λ (job : Job). holds_lock job.state && is_for new.repo.0 new.target.0 job) olds
        ≡ false → AllByRecursion (λ old. IsBehind old new) (filter stays olds)
    behind_old [] all free = tt
    behind_old (old ∷ olds) all free =
        let both = neither (holds_lock old.state && is_for new.repo.0 new.target.0 old)
        (list_any (λ (job : Job). holds_lock job.state && is_for new.repo.0 new.target.0 job)
        olds) free in
        let later = behind_old olds all.1 both.1 in
        choose (AllByRecursion (λ x. IsBehind x new)) (stays old) (old ∷ filter stays olds)
        (filter stays olds) (λ stay. (
          record {
            number = (let given = all.0.given in omega (arith, given, above));
            another = another old all.0 both.0 stay
                (bool (is_for old.repo.0 old.target.0 new));
          },
          later,
        )) (λ goes. later)
      where
        neither : (a b : Bool) → (a || b) ≡ false → (a ≡ false) × (b ≡ false)
        neither true b is = absurd (let z : true ≡ false = is in cc)
        neither false b is = (refl, is)

  record Comes (new : Job) : Type 0 where
    above : core.last_job < new.number.0
    may : MayCome new

  all_come : AllByRecursion Comes planned
  all_come = all_two (λ (job : Job). core.last_job < job.number.0) MayCome Comes planned
      (λ job above may. record { above = above; may = may })
      (numbers_above core.last_job cut) all_may

  all_behind : AllByRecursion (λ old. AllByRecursion (IsBehind old) planned)
      (filter stays core.jobs)
  all_behind = all_swapped IsBehind (filter stays core.jobs) planned
      (all_two Comes (λ (x : Job). (test : Job → Bool) → test x ≡ true
      → list_any test planned ≡ true)
      (λ new. AllByRecursion (λ old. IsBehind old new) (filter stays core.jobs)) planned
      (λ new comes among. behind_old new comes.above
      (λ old is. among (λ (job : Job). is_for job.repo.0 job.target.0 old) is)
      core.jobs rows.each comes.may.unlocked) all_come (all_any planned))

  pub rows_planned : AreJobs (with_plan planned core)
  rows_planned = record {
    order = order_both (filter stays core.jobs) planned
        (order_filtered stays core.jobs rows.order)
        (order_numbered core.last_job cut (distinct_taken _ (all_planned core only)
        (distinct_plan core only dense))) all_behind;
    each = all_both _ (filter stays core.jobs) planned
        (all_such (IsRow core.last_job) (IsRow (core.last_job + length planned))
        (filter stays core.jobs) (λ job row. record {
          given = (let given = row.given in omega (arith, given));
          queued = row.queued;
        }) (all_filter (IsRow core.last_job) stays core.jobs rows.each))
        (all_two (λ (job : Job). job.number.0 ≤ core.last_job + length planned) MayCome _ planned
        (λ job given may. record { given = given; queued = may.queued })
        (numbers_within core.last_job cut) all_may);
  }
