-- The next job of a target, with what becomes of it.
use Rattle.std.proofs.Common.{◌≡◌, ◌==◌, ◌&&◌, ◌||◌, ℕ, List, [], ◌∷◌, true, false, Option, None, Some, refl, ap, sym, ◌∙◌, inl, inr}
use Rattle.std.specs.Prelude.{find, if◌then◌else◌, not}
use Rattle.std.proofs.lemmas.Bool.{cases_Bool}
use Rattle.px_ops.specs.declared.job.Job.{Job}
use Rattle.px_cluster.specs.Core.{Core, is_in_push}
use Rattle.px_cluster.specs.Jobs.{is_failed, is_ready}
use Rattle.px_cluster.specs.Taking.{Drop, Next, PassOver, Take, Taking, may_be_taken, next_among, or_later, taking}
use Rattle.cluster_form.proofs.Lists.{both_left, both_right, same_number}
use Rattle.replqueue.specs.Facts.{comes_up, is_passed_over, taking_waiting}

-- a job that is not passed over comes before those behind it
first_or_later : (job : Job) (then_ : Taking) (later : Option Next)
    → or_later job then_ later
    ≡ (if not (is_passed_over then_) then Some (record { job = job; taking = then_ }) else
    later)
first_or_later job PassOver later = refl
first_or_later job Drop later = refl
first_or_later job (Take source) later = refl

module _ (core : Core) (target : ℕ) where
  pub next_found : (jobs : List Job) (job : Job) → find (comes_up core target) jobs ≡ Some job
      → next_among core target jobs ≡ Some (record { job = job; taking = taking core target job })
  next_found [] job is = absurd (cc)
  next_found (first ∷ jobs) job is =
      first_or_later first (taking core target first) (next_among core target jobs)
      ∙ elim (cases_Bool (comes_up core target first)) [
        | inl t ↦ (let found : Some first ≡ Some job = rw t at is in
            let one : first ≡ job = cc in
            rw t (ap (λ (next : Job). Some (record {
              job = next;
              taking =
                  taking core target next;
            })) one))
        | inr f ↦ rw f (next_found jobs job (rw f at is))
      ]

  pub next_none : (jobs : List Job) → find (comes_up core target) jobs ≡ None
      → next_among core target jobs ≡ None
  next_none [] none = refl
  next_none (first ∷ jobs) none =
      first_or_later first (taking core target first) (next_among core target jobs)
      ∙ elim (cases_Bool (comes_up core target first)) [
        | inl t ↦ absurd (let some : Some first ≡ None = rw t at none in cc)
        | inr f ↦ rw f (next_none jobs (rw f at none))
      ]

  -- a job that comes up may be taken
  up_may : (job : Job) → comes_up core target job ≡ true → may_be_taken core target job ≡ true
  up_may job up = elim (cases_Bool (may_be_taken core target job)) [
    | inl t ↦ t
    | inr f ↦ absurd (let no : false ≡ true = rw f at up in cc)
  ]

  module _ (job : Job) (up : comes_up core target job ≡ true) where
    -- it is of the target
    pub up_target : job.target.0 ≡ target
    up_target = same_number job.target.0 target (both_left (job.target.0 ==
        target) (is_ready job.state || is_failed job.state)
        (both_left ((job.target.0 == target) && (is_ready job.state || is_failed job.state))
        (not (is_in_push core job.repo.0 target)) (up_may job up)))

    -- what becomes of it is what is told of a job that waits
    pub up_taking : taking core target job ≡ taking_waiting core job
    up_taking =
        let free : not (is_in_push core job.repo.0 target) ≡ true =
        both_right ((job.target.0 == target) && (is_ready job.state || is_failed job.state))
        (not (is_in_push core job.repo.0 target)) (up_may job up) in
        elim (cases_Bool (is_in_push core job.repo.0 job.target.0)) [
          | inl t ↦ absurd (let no : not true ≡ true = rw (← up_target, t) at free in cc)
          | inr f ↦ rw (up_may job up, f) refl
        ]

  -- so something is told of it
  pub told_up : (job : Job) → comes_up core target job ≡ true → taking_waiting core job ≡ PassOver
      → false ≡ true
  told_up job up none = sym (ap (λ (then_ : Taking). not (is_passed_over then_)) (up_taking job up
      ∙ none)) ∙ up
