-- A replica where the node answered the fence under the kept lease.
use Rattle.std.proofs.Common.{◌≡◌, ℕ, Option, None, Some, refl, ◌∙◌, ap, find}
use Rattle.std.specs.Option.{option_map}
use Rattle.px_cluster.specs.Book.{Repository, kept_on}
use Rattle.px_cluster.specs.Core.{repository}
use Rattle.px_cluster.specs.Jobs.{is_for}
use Rattle.px_cluster.specs.Ledger.{Creation, Deleting, Fencing, Purpose, Pushing, Unused, Updating, fence_answer}
use Rattle.replica_invariant.specs.State.{State}
use Rattle.repair_events.proofs.Settle.{fence_idle}
use Rattle.cluster_history.specs.Goes.{IsSound}
use Rattle.cluster_history.specs.History.{Whole}
use Rattle.cluster_history.specs.Seen.{seen_job, seen_purpose, state_of}
use Rattle.book_steps.proofs.OneBook.{has_invariant}
use Rattle.book_steps.proofs.Running.{idle_found, idle_stays, without}

-- ---- the answer that is kept

-- of which lease an answer is kept, that was drawn for a fence
pub fenced : (purpose : Purpose) (last : Option ℕ) → fence_answer purpose ≡ Some last
    → purpose ≡ Fencing (Some last)
fenced (Fencing answer) last is = ap Fencing is
fenced Unused last is = absurd (let z : None ≡ Some last = is in cc)
fenced (Creation made) last is = absurd (let z : None ≡ Some last = is in cc)
fenced (Pushing begun commit answered) last is = absurd (let z : None ≡ Some last = is in cc)
fenced (Updating job source generation kept answered) last is =
    absurd (let z : None ≡ Some last = is in cc)
fenced (Deleting job answered) last is = absurd (let z : None ≡ Some last = is in cc)

-- ---- the replica where the fence of the kept lease was answered

module _ (whole : Whole) (repo storage lease : ℕ) (last : Option ℕ) (book : Repository)
    (sound : IsSound whole) (known : repository whole.cluster.core repo ≡ Some book)
    (kept : kept_on book storage ≡ lease)
    (answer : whole.cluster.ledger repo storage lease ≡ Fencing (Some last)) where
  abbrev st : State
  st = state_of whole repo book

  pub answered_purpose :
      (st.replica storage).purpose (st.replica storage).kept ≡ seen_purpose 0 (Fencing (Some last))
  answered_purpose = ap (st.replica storage).purpose kept
      ∙ ap (seen_purpose (whole.history.read_at repo storage lease)) answer

  -- no job runs for it, so none goes
  pub job_stays : option_map seen_job
      (find (is_for repo storage) (without repo storage whole.cluster.core.jobs))
      ≡ (st.replica storage).job
  job_stays = let always = has_invariant whole sound repo book known in
      ap (option_map seen_job) (idle_stays repo storage whole.cluster.core.jobs
      (idle_found (st.replica storage) (find (is_for repo storage) whole.cluster.core.jobs) refl
      (fence_idle st.shared (st.replica storage) last (always.replicas storage) answered_purpose)))
