-- What a move makes of what each lease was drawn for: what an operation draws or issues, and what the
-- answer of a node adds.
use Rattle.std.proofs.Common.{◌≡◌, ◌==◌, ◌&&◌, ◌+◌, ℕ, List, Bool, false, Option, None, Some, refl, sym, subst, inl, inr}
use Rattle.px_ops.specs.declared.job.Job.{Job}
use Rattle.px_ops.specs.declared.node_refusal.NodeRefusal.{NodeRefusal}
use Rattle.px_ops.specs.declared.op.Op.{Op}
use Rattle.px_ops.specs.declared.op.Op.TheVariants as op
use Rattle.px_ops.specs.declared.refusal.Refusal.{Refusal}
use Rattle.px_base.specs.declared.ids.TxId.{TxId}
use Rattle.node_calls.specs.Reads.{IsSnapshot}
use Rattle.node_calls.specs.ReplicaState.{ReplicaState}
use Rattle.node_calls.specs.declared.snapshot.Snapshot.{Snapshot}
use Rattle.px_cluster.specs.Acknowledged.{done_in, event_refusal}
use Rattle.px_cluster.specs.Astray.{FencesUnanswered, GoesAstray, GoesUnanswered, Happens, IsLost, Move, Moves, Unanswered}
use Rattle.px_cluster.specs.Book.{Repository}
use Rattle.px_cluster.specs.Cluster.{Cluster}
use Rattle.px_cluster.specs.Core.{repository}
use Rattle.px_cluster.specs.Deliveries.{Delivers, Fences, ReadsRefs, TakesSnapshot, fence_kept}
use Rattle.px_cluster.specs.Effects.{Effect, Location, effect_of, location_of, purpose_at, source_of, state_at}
use Rattle.px_cluster.specs.Events.{Answer, Event, Voted}
use Rattle.px_cluster.specs.Events as event
use Rattle.px_cluster.specs.Issues.{issues, issues_begin, issues_fence, issues_taking, issues_work, issues_work_in, purpose_of}
use Rattle.px_cluster.specs.Ledger.{Creation, Deleting, Fencing, Ledger, Purpose, Pushing, Updating, answered, with_last, with_purpose, with_purposes, with_snapshot}
use Rattle.px_cluster.specs.Ops.{unless_refused}
use Rattle.px_cluster.specs.Pushes.{beginning}
use Rattle.px_cluster.specs.Step.{IsAsked, Step, keeps_nothing, settling, tells_done}
use Rattle.px_cluster.specs.Taking.{Drop, Next, PassOver, Take, Taking, next_job}
use Rattle.cluster_form.proofs.Lists.{both_left, both_right, choose, same_number}

-- what was just drawn, of which nothing is issued or answered yet
pub data IsJustDrawn : Purpose → Type 0 where
  creation : IsJustDrawn (Creation false)
  pushing : (begun : ℕ) → IsJustDrawn (Pushing begun None false)
  updating : (job source generation : ℕ) → IsJustDrawn (Updating job source generation None false)
  deleting : (job : ℕ) → IsJustDrawn (Deleting job false)
  fencing : IsJustDrawn (Fencing None)

-- a relation from what a lease was drawn for to what it is afterwards, for each lease of a replica
abbrev pub OnPurposes : Type 1
OnPurposes = (repo storage lease : ℕ) → Purpose → Purpose → Type 0

-- it holds of what a move makes of it, but for a commit that is issued
pub record IsKeptBy (old : Cluster) (R : OnPurposes) : Type 0 where
  pub same : (r s l : ℕ) (p : Purpose) → R r s l p p
  pub answer : (r s l : ℕ) (p : Purpose) → R r s l p (answered p)
  pub snapshot : (r s l : ℕ) (p : Purpose) (source : Location) (taken : Snapshot)
      → IsSnapshot (state_at old source) taken → R r s l p (with_snapshot taken p)
  pub last : (r s l : ℕ) (p : Purpose) (last : Option ℕ) → R r s l p (with_last last p)
  pub drawn : (r s l : ℕ) (p q : Purpose) → IsJustDrawn q → R r s l p q
  pub collected : (tx : TxId) (voter : List ℕ) (sub : ℕ)
      → event_refusal old (op.Collect tx voter sub) ≡ None → (r s l : ℕ)
      → R r s l (old.ledger r s l) ((issues old (op.Collect tx voter sub)).ledger r s l)

module _ (old : Cluster) (R : OnPurposes) (keeps_ : IsKeptBy old R) where
  abbrev pub ToLedger : Ledger → Type 0
  ToLedger new = (repo storage lease : ℕ)
      → R repo storage lease (old.ledger repo storage lease) (new repo storage lease)

  abbrev Leaves : Cluster → Type 0
  Leaves new = ToLedger new.ledger

  unchanged : Leaves old
  unchanged r s l = keeps_.same r s l (old.ledger r s l)

  same : (new : Cluster) → new ≡ old → Leaves new
  same new is = subst Leaves (sym is) unchanged

  -- at each storage that passes a test something is drawn
  drawn_so : (repo : ℕ) (test : ℕ → Bool) (lease : ℕ) (purpose : Purpose) → IsJustDrawn purpose
      → ToLedger (with_purposes old.ledger repo test lease (λ s before. purpose))
  drawn_so repo test lease purpose just r s l =
      choose (R r s l (old.ledger r s l)) ((r == repo) && test s && (l == lease)) purpose
      (old.ledger r s l) (λ here. keeps_.drawn r s l (old.ledger r s l) purpose just)
      (λ elsewhere. keeps_.same r s l (old.ledger r s l))

  by_work : (next : Option Next) → Leaves (issues_work old next)
  by_work None = unchanged
  by_work (Some next) = so next.job next.taking
    where
      just : (job : Job) (book : Repository) (source : Option ℕ)
          → IsJustDrawn (purpose_of job book source)
      just job book None = deleting job.number.0
      just job book (Some source) = updating job.number.0 source book.newest

      at : (job : Job) (source : Option ℕ) (there : Option Repository)
          → Leaves (issues_work_in old job source there)
      at job source None = unchanged
      at job source (Some book) = drawn_so job.repo.0 (λ s. s == job.target.0) (book.last + 1)
          (purpose_of job book source) (just job book source)

      so : (job : Job) (taking : Taking) → Leaves (issues_taking old job taking)
      so job PassOver = unchanged
      so job Drop = unchanged
      so job (Take source) = at job source (repository old.core job.repo.0)

  by_fence : (repo storage : ℕ) (there : Option Repository)
      → Leaves (issues_fence old repo storage there)
  by_fence repo storage None = unchanged
  by_fence repo storage (Some book) =
      drawn_so repo (λ s. s == storage) (book.last + 1) (Fencing None) fencing

  by_begin : (repo : ℕ) (there : Option Repository) → Leaves (issues_begin old repo there)
  by_begin repo None = unchanged
  by_begin repo (Some book) = drawn_so _ _ _
      (Pushing (beginning old.core repo book).begun None false)
      (pushing (beginning old.core repo book).begun)

  by_issues : (asked : Op) → event_refusal old asked ≡ None → Leaves (issues old asked)
  by_issues (op.Create virt path factor) none = drawn_so _ _ _ (Creation false) creation
  by_issues (op.Begin repo) none = by_begin repo.0 (repository old.core repo.0)
  by_issues (op.Collect tx voter sub) none = keeps_.collected tx voter sub none
  by_issues (op.Dequeue target now) none = by_work (next_job old.core target.0)
  by_issues (op.AcceptBegin repo storage) none =
      by_fence repo.0 storage.0 (repository old.core repo.0)
  by_issues (op.SettleBegin repo storage) none =
      by_fence repo.0 storage.0 (repository old.core repo.0)
  by_issues other none = unchanged

  asking : (new : Cluster) (asked : Op) (answer : Answer) → IsAsked old asked answer new → Leaves new
  asking new asked answer is = subst Leaves (sym is.leads) (by (event_refusal old asked) refl)
    where
      by : (refusal : Option Refusal) → event_refusal old asked ≡ refusal
          → Leaves (unless_refused refusal old (done_in old asked))
      by None none = by_issues asked none
      by (Some why) none = unchanged

  -- the answer to an effect is kept
  kept_so : (effect : Effect) (keeps : Purpose → Purpose)
      → ((r s l : ℕ) (p : Purpose) → R r s l p (keeps p))
      → ToLedger (with_purpose old.ledger effect.at.repo effect.at.storage effect.lease
      (keeps (purpose_at old effect)))
  kept_so effect keeps stays_ r s l =
      choose (R r s l (old.ledger r s l))
      ((r == effect.at.repo) && (s == effect.at.storage) && (l == effect.lease))
      (keeps (purpose_at old effect)) (old.ledger r s l)
      (λ here.
      let first = both_left ((r == effect.at.repo) && (s == effect.at.storage))
      (l == effect.lease) here in
      let repo = same_number r effect.at.repo
      (both_left (r == effect.at.repo) (s == effect.at.storage) first) in
      let storage = same_number s effect.at.storage
      (both_right (r == effect.at.repo) (s == effect.at.storage) first) in
      let lease = same_number l effect.lease
      (both_right ((r == effect.at.repo) && (s == effect.at.storage)) (l == effect.lease) here) in
      subst (λ (p : Purpose). R r s l (old.ledger r s l) (keeps p))
      (λ i. old.ledger (repo i) (storage i) (lease i)) (stays_ r s l (old.ledger r s l)))
      (λ elsewhere. keeps_.same r s l (old.ledger r s l))

  delivering : {A : Type 0} (refuses : ReplicaState → NodeRefusal → Type 0)
      (does : ReplicaState → A → ReplicaState → Type 0) (tells : A → Answer)
      (keeps : Purpose → Purpose) → ((r s l : ℕ) (p : Purpose) → R r s l p (keeps p))
      → (new : Cluster) (effect : Option Effect) (answer : Answer)
      → Delivers refuses does tells keeps old effect answer new → Leaves new
  delivering refuses does tells keeps stays_ new None answer is = same new is.1
  delivering refuses does tells keeps stays_ new (Some effect) answer (inl is) = same new is.same
  delivering refuses does tells keeps stays_ new (Some effect) answer (inr is) =
      subst Leaves (sym is.changes) (kept_so effect keeps stays_)

  fencing_ : (new : Cluster) (effect : Option Effect) (answer : Answer)
      → Fences old effect answer new → Leaves new
  fencing_ new None answer is = same new is.1
  fencing_ new (Some effect) answer is = subst Leaves (sym is.1)
      (kept_so effect (fence_kept (state_at old effect.at)) (λ r s l p.
      choose (R r s l p) (state_at old effect.at).held (with_last (state_at old effect.at).last p) p
      (λ held. keeps_.last r s l p (state_at old effect.at).last) (λ not_held. keeps_.same r s l p)))

  reading : (new : Cluster) (location : Option Location) (answer : Answer)
      → ReadsRefs old location answer new → Leaves new
  reading new None answer is = same new is.1
  reading new (Some location) answer is = same new is.1

  taking_snapshot : (new : Cluster) (source : Option Location) (effect : Option Effect)
      (answer : Answer) → TakesSnapshot old source effect answer new → Leaves new
  taking_snapshot new source None answer is = same new is.1
  taking_snapshot new None (Some effect) answer is = same new is.1
  taking_snapshot new (Some source) (Some effect) answer (inl is) = same new is.same
  taking_snapshot new (Some source) (Some effect) answer (inr is) = subst Leaves (sym is.kept)
      (kept_so effect (with_snapshot is.snapshot)
      (λ r s l p. keeps_.snapshot r s l p source is.snapshot is.is))

  by_event : (new : Cluster) (happened : Event) (answer : Answer)
      → Step old happened answer new → Leaves new
  by_event new (event.Asks asked) answer is = asking new asked answer is
  by_event new (event.Settled repo storage lease) answer is =
      asking new (settling old repo storage lease) answer is
  by_event new (event.Make storage repo lease) answer is =
      delivering _ _ tells_done answered keeps_.answer new
      (effect_of old (event.Make storage repo lease)) answer is
  by_event new (event.Prepare tx storage push) answer is =
      delivering _ _ Voted keeps_nothing keeps_.same new
      (effect_of old (event.Prepare tx storage push)) answer is
  by_event new (event.Commit tx storage) answer is =
      delivering _ _ Voted answered keeps_.answer new (effect_of old (event.Commit tx storage)) answer is
  by_event new (event.Abort tx storage) answer is =
      delivering _ _ tells_done keeps_nothing keeps_.same new
      (effect_of old (event.Abort tx storage)) answer is
  by_event new (event.Refs storage repo) answer is =
      reading new (location_of old repo storage) answer is
  by_event new (event.TakeSnapshot job lease) answer is =
      let effect = effect_of old (event.TakeSnapshot job lease) in
      taking_snapshot new (source_of old job effect) effect answer is
  by_event new (event.Apply job lease) answer is =
      delivering _ _ tells_done answered keeps_.answer new (effect_of old (event.Apply job lease))
      answer is
  by_event new (event.Remove job lease) answer is =
      delivering _ _ tells_done answered keeps_.answer new (effect_of old (event.Remove job lease))
      answer is
  by_event new (event.Fence storage repo lease) answer is =
      fencing_ new (effect_of old (event.Fence storage repo lease)) answer is
  by_event new event.Restart answer is = subst Leaves (sym is.leads) unchanged

  by_loss : {A : Type 0} (does : ReplicaState → A → ReplicaState → Type 0) (new : Cluster)
      (effect : Option Effect) → GoesUnanswered does old effect new → Leaves new
  by_loss does new None is = absurd is
  by_loss does new (Some effect) is = subst Leaves (sym is.changes) unchanged

  by_fence_loss : (new : Cluster) (effect : Option Effect) → FencesUnanswered old effect new
      → Leaves new
  by_fence_loss new None is = absurd is
  by_fence_loss new (Some effect) is = subst Leaves (sym is) unchanged

  -- where the answer is lost, nothing is kept
  astray : (new : Cluster) (happened : Event) → Unanswered old happened new → Leaves new
  astray new (event.Make storage repo lease) is =
      by_loss _ new (effect_of old (event.Make storage repo lease)) is
  astray new (event.Prepare tx storage push) is =
      by_loss _ new (effect_of old (event.Prepare tx storage push)) is
  astray new (event.Commit tx storage) is =
      by_loss _ new (effect_of old (event.Commit tx storage)) is
  astray new (event.Abort tx storage) is =
      by_loss _ new (effect_of old (event.Abort tx storage)) is
  astray new (event.Apply job lease) is = by_loss _ new (effect_of old (event.Apply job lease)) is
  astray new (event.Remove job lease) is =
      by_loss _ new (effect_of old (event.Remove job lease)) is
  astray new (event.Fence storage repo lease) is =
      by_fence_loss new (effect_of old (event.Fence storage repo lease)) is
  astray new (event.Asks asked) is = absurd is
  astray new (event.Settled repo storage lease) is = absurd is
  astray new (event.Refs storage repo) is = absurd is
  astray new (event.TakeSnapshot job lease) is = absurd is
  astray new event.Restart is = absurd is

  pub ledger_moves : (new : Cluster) (move : Move) → Moves old move new → Leaves new
  ledger_moves new (Happens happened answer) is = by_event new happened answer is
  ledger_moves new (GoesAstray happened) is = astray new happened is
  ledger_moves new (IsLost storage test) is = subst Leaves (sym is) unchanged
