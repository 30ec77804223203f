-- Why the end of a job is accepted: the worker has the last lease of a job that runs, and the node
-- answered what that lease was drawn for.
use Rattle.std.proofs.Common.{◌≡◌, ◌==◌, ℕ, not, [], ◌∷◌, Bool, true, false, Option, None, Some, refl, sym, ◌∙◌}
use Rattle.std.specs.Option.{option_or}
use Rattle.px_base.specs.declared.ids.JobId.{JobId}
use Rattle.px_ops.specs.declared.job.Job.{Job}
use Rattle.px_ops.specs.declared.job.JobState.{JobState}
use Rattle.px_ops.specs.declared.job.JobState.TheVariants as queued
use Rattle.px_ops.specs.declared.refusal.Refusal.{Refusal}
use Rattle.px_ops.specs.declared.refusal.Refusal.TheVariants as refusal
use Rattle.px_cluster.specs.Creating.{lease_lost}
use Rattle.px_cluster.specs.Jobs.{is_in_progress, worker_refusal}
use Rattle.px_cluster.specs.Ledger as ledger
use Rattle.px_cluster.specs.Ledger.{is_worked}
use Rattle.px_cluster.specs.Refusals.{cause, first_cause}
use Rattle.replica_invariant.specs.Contents.{Content}
use Rattle.replica_invariant.specs.Purposes.{Updating}
use Rattle.replica_invariant.specs.State.{Running}
use Rattle.cluster_form.proofs.Lists.{both_right, same_number}
use Rattle.cluster_history.specs.Seen.{seen_purpose, seen_state}

-- ---- refusals

-- where neither of two refusals comes, the second does not
pub second_none : (a b : Option Refusal) → option_or a b ≡ None → b ≡ None
second_none None b is = is
second_none (Some why) b is = absurd (let z : Some why ≡ None = is in cc)

-- a test that must hold
pub unless_so : (b : Bool) (why : Refusal) → cause (not b) why ≡ None → b ≡ true
unless_so true why is = refl
unless_so false why is = absurd (let z : Some why ≡ None = is in cc)

-- of two causes neither holds
both_none : (a b : Option Refusal) → first_cause (a ∷ b ∷ []) ≡ None → (a ≡ None) × (b ≡ None)
both_none None None is = (refl, refl)
both_none None (Some why) is = absurd (let z : Some why ≡ None = is in cc)
both_none (Some why) b is = absurd (let z : Some why ≡ None = is in cc)

-- ---- the worker has the last lease of a job that runs

pub record IsWorker (there : Option Job) (lease : ℕ) : Type 0 where
  pub job : Job
  pub is : there ≡ Some job
  pub runs : is_in_progress job.state ≡ true
  pub under : job.lease ≡ lease

-- who is not refused has it
pub worker_is : (number : JobId) (lease : ℕ) (there : Option Job)
    → worker_refusal number lease there ≡ None → IsWorker there lease
worker_is number lease None is = absurd (let z : Some (refusal.UnknownJob number) ≡ None = is in cc)
worker_is number lease (Some job) is =
    let both = both_none (cause (not (is_in_progress job.state)) (refusal.BadState job.state))
    (lease_lost job.lease lease) is in record {
      job = job;
      is = refl;
      runs = unless_so (is_in_progress job.state) (refusal.BadState job.state) both.0;
      under = same_number job.lease lease
          (unless_so (job.lease == lease) (refusal.LeaseLost job.lease lease) both.1);
    }

-- such a job is seen to run
pub in_progress : (state : JobState) (lease : ℕ) → is_in_progress state ≡ true
    → seen_state state lease ≡ Running lease
in_progress queued.Ready lease is = absurd (let z : false ≡ true = is in cc)
in_progress queued.InProgress lease is = refl
in_progress queued.Completed lease is = absurd (let z : false ≡ true = is in cc)
in_progress queued.Cancelled lease is = absurd (let z : false ≡ true = is in cc)
in_progress queued.Failed lease is = absurd (let z : false ≡ true = is in cc)
in_progress queued.Dead lease is = absurd (let z : false ≡ true = is in cc)

-- ---- the node answered the update that the lease was drawn for

pub update_answered : (level number : ℕ) (purpose : ledger.Purpose) (source generation : ℕ)
    (kept : Option (Content × ℕ)) (answered : Bool)
    → seen_purpose level purpose ≡ Updating source generation kept answered
    → is_worked number purpose ≡ true → answered ≡ true
update_answered level number ledger.Unused source generation kept answered is worked =
    absurd (let z : false ≡ true = worked in cc)
update_answered level number (ledger.Creation made) source generation kept answered is worked =
    absurd (let z : false ≡ true = worked in cc)
update_answered level number (ledger.Pushing b c a) source generation kept answered is worked =
    absurd (let z : false ≡ true = worked in cc)
update_answered level number (ledger.Updating j s g k a) source generation kept answered is worked =
    let same : a ≡ answered = (let z : seen_purpose level (ledger.Updating j s g k a)
    ≡ Updating source generation kept answered = is in cc) in
    sym same ∙ both_right (j == number) a worked
update_answered level number (ledger.Deleting j a) source generation kept answered is worked =
    absurd (let z : seen_purpose level (ledger.Deleting j a)
    ≡ Updating source generation kept answered = is in cc)
update_answered level number (ledger.Fencing last) source generation kept answered is worked =
    absurd (let z : false ≡ true = worked in cc)
