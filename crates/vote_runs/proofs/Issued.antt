-- Which move issues a commit: a collect, and no other one.
use Rattle.std.proofs.Common.{◌≡◌, ◌==◌, ◌&&◌, ◌+◌, ◌⊎◌, ℕ, List, Bool, false, Option, None, Some, refl, sym, ◌∙◌, ap, subst, inl, inr}
use Rattle.px_base.specs.declared.ids.TxId.{TxId}
use Rattle.px_ops.specs.declared.job.Job.{Job}
use Rattle.px_ops.specs.declared.node_refusal.NodeRefusal.{NodeRefusal}
use Rattle.px_ops.specs.declared.op.Op.{Op}
use Rattle.px_ops.specs.declared.op.Op.TheVariants as op
use Rattle.px_ops.specs.declared.refusal.Refusal.{Refusal}
use Rattle.node_calls.specs.ReplicaState.{ReplicaState}
use Rattle.px_cluster.specs.Acknowledged.{done_in, event_refusal, op_reply}
use Rattle.px_cluster.specs.Astray.{FencesUnanswered, GoesAstray, GoesUnanswered, Happens, IsLost, Move, Moves, Unanswered}
use Rattle.px_cluster.specs.Book.{Repository}
use Rattle.px_cluster.specs.Cluster.{Cluster}
use Rattle.px_cluster.specs.Core.{push_of, repository, voting}
use Rattle.px_cluster.specs.Deliveries.{Delivers, Fences, ReadsRefs, TakesSnapshot, fence_kept}
use Rattle.px_cluster.specs.Effects.{Effect, Location, effect_of, location_of, purpose_at, source_of, state_at}
use Rattle.px_cluster.specs.Events.{Answer, Event, Replied, Voted}
use Rattle.px_cluster.specs.Events as event
use Rattle.px_cluster.specs.Issues.{issues, issues_begin, issues_fence, issues_taking, issues_work, issues_work_in, purpose_of}
use Rattle.px_cluster.specs.Ledger.{Creation, Fencing, Purpose, Pushing, answered, commit_in, with_purpose, with_purposes, with_snapshot}
use Rattle.px_cluster.specs.Ops.{unless_refused}
use Rattle.px_cluster.specs.Pushes.{beginning}
use Rattle.px_cluster.specs.Step.{IsAsked, Step, keeps_nothing, settling, tells_done}
use Rattle.px_cluster.specs.Taking.{Drop, Next, PassOver, Take, Taking, next_job}
use Rattle.cluster_form.proofs.Lists.{both_left, both_right, choose, same_number}
use Rattle.vote_runs.specs.Commits.{IsOut}
use Rattle.vote_runs.proofs.Purposes.{AddsNone, by_answer, by_fence_kept, by_snapshot, none_in}
use Rattle.vote_runs.proofs.Told.{Adds, IsCollect, collected}

module _ (old : Cluster) (move : Move) where
  -- what is so of the ledger after the move
  abbrev Leaves : Cluster → Type 0
  Leaves new = Adds old (IsCollect old move) new.ledger

  -- the ledger as it was
  unchanged : Leaves old
  unchanged r s l hash is = inl is

  -- the cluster as it was
  same : (new : Cluster) → new ≡ old → Leaves new
  same new is = subst Leaves (sym is) unchanged

  -- what is drawn has no commit yet
  drawn_so : (repo : ℕ) (test : ℕ → Bool) (lease : ℕ) (purpose : Purpose)
      → commit_in purpose ≡ None
      → Adds old (IsCollect old move)
      (with_purposes old.ledger repo test lease (λ s before. purpose))
  drawn_so repo test lease purpose none r s l hash =
      choose (λ (p : Purpose). commit_in p ≡ Some hash
      → IsOut old r s l hash ⊎ IsCollect old move r s l hash)
      ((r == repo) && test s && (l == lease)) purpose (old.ledger r s l)
      (λ here is. inl (none_in (old.ledger r s l) purpose none hash is)) (λ elsewhere is. inl is)

  -- a job that is taken
  by_work : (next : Option Next) → Leaves (issues_work old next)
  by_work None = unchanged
  by_work (Some next) = so next.job next.taking
    where
      none : (job : Job) (book : Repository) (source : Option ℕ)
          → commit_in (purpose_of job book source) ≡ None
      none job book None = refl
      none job book (Some source) = refl

      at : (job : Job) (source : Option ℕ) (there : Option Repository)
          → Leaves (issues_work_in old job source there)
      at job source None = unchanged
      at job source (Some book) = drawn_so job.repo.0 (λ s. s == job.target.0) (book.last + 1)
          (purpose_of job book source) (none job book source)

      so : (job : Job) (taking : Taking) → Leaves (issues_taking old job taking)
      so job PassOver = unchanged
      so job Drop = unchanged
      so job (Take source) = at job source (repository old.core job.repo.0)

  -- a fence
  by_fence : (repo storage : ℕ) (there : Option Repository)
      → Leaves (issues_fence old repo storage there)
  by_fence repo storage None = unchanged
  by_fence repo storage (Some book) =
      drawn_so repo (λ s. s == storage) (book.last + 1) (Fencing None) refl

  -- a push that begins
  by_begin : (repo : ℕ) (there : Option Repository) → Leaves (issues_begin old repo there)
  by_begin repo None = unchanged
  by_begin repo (Some book) = drawn_so _ _ _
      (Pushing (beginning old.core repo book).begun None false) refl

  -- where the operation is a collect, it is the move
  by_issues : (asked : Op) → ((tx : TxId) (voter : List ℕ) (sub : ℕ)
      → asked ≡ op.Collect tx voter sub
      → move ≡ Happens (event.Asks (op.Collect tx voter sub))
      (Replied (op_reply old (op.Collect tx voter sub))))
      → event_refusal old asked ≡ None → Leaves (issues old asked)
  by_issues (op.Create virt path factor) moves none = drawn_so _ _ _ (Creation false) refl
  by_issues (op.Begin repo) moves none = by_begin repo.0 (repository old.core repo.0)
  by_issues (op.Collect tx voter sub) moves none = λ r s l hash is.
      elim (collected old tx voter sub (push_of old.core tx) (voting old.core tx) refl refl r s l hash is) [
        | inl before ↦ inl before
        | inr told ↦ inr (record {
          tx = tx;
          voter = voter;
          sub = sub;
          is = moves tx voter sub refl;
          none = none;
          told = told;
        })
      ]
  by_issues (op.Dequeue target now) moves none = by_work (next_job old.core target.0)
  by_issues (op.AcceptBegin repo storage) moves none =
      by_fence repo.0 storage.0 (repository old.core repo.0)
  by_issues (op.SettleBegin repo storage) moves none =
      by_fence repo.0 storage.0 (repository old.core repo.0)
  by_issues other moves none = unchanged

  -- an operation, refused or not
  asking : (new : Cluster) (asked : Op) → ((tx : TxId) (voter : List ℕ) (sub : ℕ)
      → asked ≡ op.Collect tx voter sub
      → move ≡ Happens (event.Asks (op.Collect tx voter sub))
      (Replied (op_reply old (op.Collect tx voter sub))))
      → (answer : Answer) → IsAsked old asked answer new → Leaves new
  asking new asked moves answer is =
      subst Leaves (sym is.leads) (by (event_refusal old asked) refl)
    where
      by : (refusal : Option Refusal) → event_refusal old asked ≡ refusal
          → Leaves (unless_refused refusal old (done_in old asked))
      by None none = by_issues asked moves none
      by (Some why) none = unchanged

  -- the answer to an effect is kept
  kept_so : (effect : Effect) (keeps : Purpose → Purpose)
      → ((p : Purpose) → AddsNone p (keeps p))
      → Adds old (IsCollect old move) (with_purpose old.ledger effect.at.repo effect.at.storage
      effect.lease (keeps (purpose_at old effect)))
  kept_so effect keeps adds r s l hash =
      choose (λ (p : Purpose). commit_in p ≡ Some hash
      → IsOut old r s l hash ⊎ IsCollect old move r s l hash)
      ((r == effect.at.repo) && (s == effect.at.storage) && (l == effect.lease))
      (keeps (purpose_at old effect)) (old.ledger r s l)
      (λ here is.
      let first = both_left ((r == effect.at.repo) && (s == effect.at.storage))
      (l == effect.lease) here in
      let repo = same_number r effect.at.repo
      (both_left (r == effect.at.repo) (s == effect.at.storage) first) in
      let storage = same_number s effect.at.storage
      (both_right (r == effect.at.repo) (s == effect.at.storage) first) in
      let lease = same_number l effect.lease
      (both_right ((r == effect.at.repo) && (s == effect.at.storage)) (l == effect.lease) here) in
      inl (subst (λ (p : Purpose). commit_in p ≡ Some hash)
      (sym (λ i. old.ledger (repo i) (storage i) (lease i)))
      (adds (purpose_at old effect) hash is))) (λ elsewhere is. inl is)

  -- a delivery whose answer is kept, or that is refused
  delivering : {A : Type 0} (refuses : ReplicaState → NodeRefusal → Type 0)
      (does : ReplicaState → A → ReplicaState → Type 0) (tells : A → Answer)
      (keeps : Purpose → Purpose) → ((p : Purpose) → AddsNone p (keeps p))
      → (new : Cluster) (effect : Option Effect) (answer : Answer)
      → Delivers refuses does tells keeps old effect answer new → Leaves new
  delivering refuses does tells keeps adds new None answer is = same new is.1
  delivering refuses does tells keeps adds new (Some effect) answer (inl is) = same new is.same
  delivering refuses does tells keeps adds new (Some effect) answer (inr is) =
      subst Leaves (sym is.changes) (kept_so effect keeps adds)

  -- a fence that is delivered
  fencing_ : (new : Cluster) (effect : Option Effect) (answer : Answer)
      → Fences old effect answer new → Leaves new
  fencing_ new None answer is = same new is.1
  fencing_ new (Some effect) answer is = subst Leaves (sym is.1)
      (kept_so effect (fence_kept (state_at old effect.at)) (by_fence_kept (state_at old effect.at)))

  -- references that are read
  reading : (new : Cluster) (location : Option Location) (answer : Answer)
      → ReadsRefs old location answer new → Leaves new
  reading new None answer is = same new is.1
  reading new (Some location) answer is = same new is.1

  -- a snapshot that is taken
  taking_snapshot : (new : Cluster) (source : Option Location) (effect : Option Effect)
      (answer : Answer) → TakesSnapshot old source effect answer new → Leaves new
  taking_snapshot new source None answer is = same new is.1
  taking_snapshot new None (Some effect) answer is = same new is.1
  taking_snapshot new (Some source) (Some effect) answer (inl is) = same new is.same
  taking_snapshot new (Some source) (Some effect) answer (inr is) = subst Leaves (sym is.kept)
      (kept_so effect (with_snapshot is.snapshot) (by_snapshot is.snapshot))

  -- each event that is answered
  by_event : (new : Cluster) (happened : Event) (answer : Answer)
      → move ≡ Happens happened answer → Step old happened answer new → Leaves new
  by_event new (event.Asks asked) answer moves is = asking new asked
      (λ tx voter sub same_. moves ∙ (λ i. Happens (event.Asks (same_ i))
      (is.replied i)) ∙ ap (λ o. Happens (event.Asks (op.Collect tx voter sub)) (Replied (op_reply old o)))
      same_) answer is
  by_event new (event.Settled repo storage lease) answer moves is =
      asking new (settling old repo storage lease)
      (λ tx voter sub same_. absurd (let z : settling old repo storage lease
      ≡ op.Collect tx voter sub = same_ in cc)) answer is
  by_event new (event.Make storage repo lease) answer moves is =
      delivering _ _ tells_done answered by_answer new
      (effect_of old (event.Make storage repo lease)) answer is
  by_event new (event.Prepare tx storage push) answer moves is =
      delivering _ _ Voted keeps_nothing (λ p hash is_. is_) new
      (effect_of old (event.Prepare tx storage push)) answer is
  by_event new (event.Commit tx storage) answer moves is =
      delivering _ _ Voted answered by_answer new (effect_of old (event.Commit tx storage)) answer is
  by_event new (event.Abort tx storage) answer moves is =
      delivering _ _ tells_done keeps_nothing (λ p hash is_. is_) new
      (effect_of old (event.Abort tx storage)) answer is
  by_event new (event.Refs storage repo) answer moves is =
      reading new (location_of old repo storage) answer is
  by_event new (event.TakeSnapshot job lease) answer moves is =
      let effect = effect_of old (event.TakeSnapshot job lease) in
      taking_snapshot new (source_of old job effect) effect answer is
  by_event new (event.Apply job lease) answer moves is =
      delivering _ _ tells_done answered by_answer new (effect_of old (event.Apply job lease))
      answer is
  by_event new (event.Remove job lease) answer moves is =
      delivering _ _ tells_done answered by_answer new (effect_of old (event.Remove job lease))
      answer is
  by_event new (event.Fence storage repo lease) answer moves is =
      fencing_ new (effect_of old (event.Fence storage repo lease)) answer is
  by_event new event.Restart answer moves is = subst Leaves (sym is.leads) unchanged

  -- an effect whose answer is lost
  by_loss : {A : Type 0} (does : ReplicaState → A → ReplicaState → Type 0) (new : Cluster)
      (effect : Option Effect) → GoesUnanswered does old effect new → Leaves new
  by_loss does new None is = absurd is
  by_loss does new (Some effect) is = subst Leaves (sym is.changes) unchanged

  -- a fence whose answer is lost
  by_fence_loss : (new : Cluster) (effect : Option Effect) → FencesUnanswered old effect new
      → Leaves new
  by_fence_loss new None is = absurd is
  by_fence_loss new (Some effect) is = subst Leaves (sym is) unchanged

  -- where the answer is lost, nothing is kept
  astray : (new : Cluster) (happened : Event) → Unanswered old happened new → Leaves new
  astray new (event.Make storage repo lease) is =
      by_loss _ new (effect_of old (event.Make storage repo lease)) is
  astray new (event.Prepare tx storage push) is =
      by_loss _ new (effect_of old (event.Prepare tx storage push)) is
  astray new (event.Commit tx storage) is =
      by_loss _ new (effect_of old (event.Commit tx storage)) is
  astray new (event.Abort tx storage) is =
      by_loss _ new (effect_of old (event.Abort tx storage)) is
  astray new (event.Apply job lease) is = by_loss _ new (effect_of old (event.Apply job lease)) is
  astray new (event.Remove job lease) is =
      by_loss _ new (effect_of old (event.Remove job lease)) is
  astray new (event.Fence storage repo lease) is =
      by_fence_loss new (effect_of old (event.Fence storage repo lease)) is
  astray new (event.Asks asked) is = absurd is
  astray new (event.Settled repo storage lease) is = absurd is
  astray new (event.Refs storage repo) is = absurd is
  astray new (event.TakeSnapshot job lease) is = absurd is
  astray new event.Restart is = absurd is

  -- each move
  by_move : (new : Cluster) (moved : Move) → move ≡ moved → Moves old moved new → Leaves new
  by_move new (Happens happened answer) moves is = by_event new happened answer moves is
  by_move new (GoesAstray happened) moves is = astray new happened is
  by_move new (IsLost storage test) moves is = subst Leaves (sym is) unchanged

  -- a commit that is out after a move was out before, or was issued by a collect
  pub commit_issued : (new : Cluster) → Moves old move new → Leaves new
  commit_issued new is = by_move new move refl is
