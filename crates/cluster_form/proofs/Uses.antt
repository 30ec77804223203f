-- Which leases are used changes at operations alone: a delivery keeps an answer of what is used.
use Rattle.std.proofs.Common.{◌≡◌, ◌==◌, ◌&&◌, ℕ, Option, None, Some, refl, sym, ◌∙◌, subst, inl, inr}
use Rattle.node_calls.specs.ReplicaState.{ReplicaState}
use Rattle.node_calls.specs.declared.snapshot.Snapshot.{Snapshot}
use Rattle.px_ops.specs.declared.node_refusal.NodeRefusal.{NodeRefusal}
use Rattle.px_ops.specs.declared.op.Op.{Op}
use Rattle.px_ops.specs.declared.refusal.Refusal.{Refusal}
use Rattle.px_cluster.specs.Acknowledged.{done_in, event_refusal}
use Rattle.px_cluster.specs.Astray.{FencesUnanswered, GoesAstray, GoesUnanswered, Happens, IsLost, Unanswered}
use Rattle.px_cluster.specs.Cluster.{Cluster}
use Rattle.px_cluster.specs.Core.{restarted}
use Rattle.px_cluster.specs.Deliveries.{Delivers, Fences, ReadsRefs, TakesSnapshot, fence_kept}
use Rattle.px_cluster.specs.Effects.{Effect, Location, effect_of, location_of, source_of, state_at}
use Rattle.px_cluster.specs.Events.{Answer, Event, Voted}
use Rattle.px_cluster.specs.Events as event
use Rattle.px_cluster.specs.Ledger.{Creation, Deleting, Fencing, Ledger, Purpose, Pushing, Unused, Updating, answered, with_last, with_purpose, with_snapshot}
use Rattle.px_cluster.specs.Ops.{unless_refused}
use Rattle.px_cluster.specs.Step.{IsAsked, Step, keeps_nothing, settling, tells_done}
use Rattle.cluster_form.specs.Always.{IsKept}
use Rattle.cluster_form.specs.Drawn.{is_used}
use Rattle.cluster_form.proofs.Lists.{both_left, both_right, choose, same_number}

-- ---- what keeps an answer

abbrev pub KeepsUse : (Purpose → Purpose) → Type 0
KeepsUse keeps = (purpose : Purpose) → is_used (keeps purpose) ≡ is_used purpose

answered_use : KeepsUse answered
answered_use Unused = refl
answered_use (Creation made) = refl
answered_use (Pushing begun commit answered_) = refl
answered_use (Updating job source generation kept answered_) = refl
answered_use (Deleting job answered_) = refl
answered_use (Fencing last) = refl

snapshot_use : (snapshot : Snapshot) → KeepsUse (with_snapshot snapshot)
snapshot_use snapshot Unused = refl
snapshot_use snapshot (Creation made) = refl
snapshot_use snapshot (Pushing begun commit answered_) = refl
snapshot_use snapshot (Updating job source generation kept answered_) = refl
snapshot_use snapshot (Deleting job answered_) = refl
snapshot_use snapshot (Fencing last) = refl

last_use : (last : Option ℕ) → KeepsUse (with_last last)
last_use last Unused = refl
last_use last (Creation made) = refl
last_use last (Pushing begun commit answered_) = refl
last_use last (Updating job source generation kept answered_) = refl
last_use last (Deleting job answered_) = refl
last_use last (Fencing before) = refl

fence_use : (state : ReplicaState) → KeepsUse (fence_kept state)
fence_use state purpose = choose (λ (p : Purpose). is_used p ≡ is_used purpose) state.held
    (with_last state.last purpose) purpose (λ held. last_use state.last purpose) (λ not_held. refl)

-- ---- the same leases are used

abbrev pub SameUses : Ledger → Ledger → Type 0
SameUses old new = (repo storage lease : ℕ)
    → is_used (new repo storage lease) ≡ is_used (old repo storage lease)

same_self_uses : (ledger : Ledger) → SameUses ledger ledger
same_self_uses ledger repo storage lease = refl

-- at one place another purpose, which is used as the one before was
pub same_with : (ledger : Ledger) (repo storage lease : ℕ) (purpose : Purpose)
    → is_used purpose ≡ is_used (ledger repo storage lease)
    → SameUses ledger (with_purpose ledger repo storage lease purpose)
same_with ledger repo storage lease purpose same r s l =
    choose (λ (p : Purpose). is_used p ≡ is_used (ledger r s l))
    ((r == repo) && (s == storage) && (l == lease)) purpose (ledger r s l) (λ holds.
    let first = both_left ((r == repo) && (s == storage)) (l == lease) holds in
    let is_repo = same_number r repo (both_left (r == repo) (s == storage) first) in
    let is_storage = same_number s storage (both_right (r == repo) (s == storage) first) in
    let is_lease = same_number l lease
    (both_right ((r == repo) && (s == storage)) (l == lease) holds) in
    same ∙ (λ i. is_used (ledger (sym is_repo i) (sym is_storage i) (sym is_lease i))))
    (λ fails. refl)

-- ---- what is true by the core, the uses, and where effects of pushes and jobs go

module _ (P : Cluster → Type 0)
    (same : (old new : Cluster) → new.core ≡ old.core → SameUses old.ledger new.ledger
    → new.pushed ≡ old.pushed → new.worked ≡ old.worked → P old → P new)
    (kept : (old : Cluster) (asked : Op) → event_refusal old asked ≡ None → P old
    → P (done_in old asked))
    (again : (old : Cluster) → P old → P (record old { core = restarted old.core })) where
  abbrev Leads : Cluster → Cluster → Type 0
  Leads old new = P old → P new

  -- it is a cluster of the same core and the same uses
  leads : (old new then_ : Cluster) → new ≡ then_ → then_.core ≡ old.core
      → SameUses old.ledger then_.ledger → then_.pushed ≡ old.pushed → then_.worked ≡ old.worked
      → Leads old new
  leads old new then_ is core uses pushed worked holds =
      subst P (sym is) (same old then_ core uses pushed worked holds)

  stays : (old new : Cluster) → new ≡ old → Leads old new
  stays old new is = leads old new old is refl (same_self_uses old.ledger) refl refl

  asked_by : (old : Cluster) (asked : Op) (refusal : Option Refusal)
      → event_refusal old asked ≡ refusal → P old
      → P (unless_refused refusal old (done_in old asked))
  asked_by old asked None is holds = kept old asked is holds
  asked_by old asked (Some why) is holds = holds

  asking : (old new : Cluster) (asked : Op) (answer : Answer) → IsAsked old asked answer new
      → Leads old new
  asking old new asked answer is holds =
      subst P (sym is.leads) (asked_by old asked (event_refusal old asked) refl holds)

  module _ {A : Type 0} (refuses : ReplicaState → NodeRefusal → Type 0)
      (does : ReplicaState → A → ReplicaState → Type 0) (tells : A → Answer)
      (keeps : Purpose → Purpose) (keeps_use : KeepsUse keeps) where
    delivering : (old new : Cluster) (effect : Option Effect) (answer : Answer)
        → Delivers refuses does tells keeps old effect answer new → Leads old new
    delivering old new None answer is = stays old new is.1
    delivering old new (Some effect) answer (inl is) = stays old new is.same
    delivering old new (Some effect) answer (inr is) = leads old new _ is.changes refl
        (same_with old.ledger effect.at.repo effect.at.storage effect.lease _ (keeps_use _)) refl refl

  fencing : (old new : Cluster) (effect : Option Effect) (answer : Answer)
      → Fences old effect answer new → Leads old new
  fencing old new None answer is = stays old new is.1
  fencing old new (Some effect) answer is = leads old new _ is.1 refl
      (same_with old.ledger effect.at.repo effect.at.storage effect.lease _
      (fence_use (state_at old effect.at) _)) refl refl

  reading : (old new : Cluster) (location : Option Location) (answer : Answer)
      → ReadsRefs old location answer new → Leads old new
  reading old new None answer is = stays old new is.1
  reading old new (Some location) answer is = stays old new is.1

  taking_snapshot : (old new : Cluster) (source : Option Location) (effect : Option Effect)
      (answer : Answer) → TakesSnapshot old source effect answer new → Leads old new
  taking_snapshot old new source None answer is = stays old new is.1
  taking_snapshot old new None (Some effect) answer is = stays old new is.1
  taking_snapshot old new (Some source) (Some effect) answer (inl is) = stays old new is.same
  taking_snapshot old new (Some source) (Some effect) answer (inr is) = leads old new _ is.kept refl
      (same_with old.ledger effect.at.repo effect.at.storage effect.lease _
      (snapshot_use is.snapshot _)) refl refl

  by_event : (old new : Cluster) (happened : Event) (answer : Answer)
      → Step old happened answer new → Leads old new
  by_event old new (event.Asks asked) answer is = asking old new asked answer is
  by_event old new (event.Settled repo storage lease) answer is =
      asking old new (settling old repo storage lease) answer is
  by_event old new (event.Make storage repo lease) answer is =
      delivering _ _ tells_done answered answered_use old new
      (effect_of old (event.Make storage repo lease)) answer is
  by_event old new (event.Prepare tx storage push) answer is =
      delivering _ _ Voted keeps_nothing (λ purpose. refl) old new
      (effect_of old (event.Prepare tx storage push)) answer is
  by_event old new (event.Commit tx storage) answer is =
      delivering _ _ Voted answered answered_use old new
      (effect_of old (event.Commit tx storage)) answer is
  by_event old new (event.Abort tx storage) answer is =
      delivering _ _ tells_done keeps_nothing (λ purpose. refl) old new
      (effect_of old (event.Abort tx storage)) answer is
  by_event old new (event.Refs storage repo) answer is =
      reading old new (location_of old repo storage) answer is
  by_event old new (event.TakeSnapshot job lease) answer is =
      let effect = effect_of old (event.TakeSnapshot job lease) in
      taking_snapshot old new (source_of old job effect) effect answer is
  by_event old new (event.Apply job lease) answer is =
      delivering _ _ tells_done answered answered_use old new
      (effect_of old (event.Apply job lease)) answer is
  by_event old new (event.Remove job lease) answer is =
      delivering _ _ tells_done answered answered_use old new
      (effect_of old (event.Remove job lease)) answer is
  by_event old new (event.Fence storage repo lease) answer is =
      fencing old new (effect_of old (event.Fence storage repo lease)) answer is
  by_event old new event.Restart answer is = λ holds.
      subst P (sym is.leads) (again old holds)

  module _ {A : Type 0} (does : ReplicaState → A → ReplicaState → Type 0) where
    unanswered_call : (old new : Cluster) (effect : Option Effect)
        → GoesUnanswered does old effect new → Leads old new
    unanswered_call old new None is = absurd is
    unanswered_call old new (Some effect) is =
        leads old new _ is.changes refl (same_self_uses old.ledger) refl refl

  unanswered_fence : (old new : Cluster) (effect : Option Effect)
      → FencesUnanswered old effect new → Leads old new
  unanswered_fence old new None is = absurd is
  unanswered_fence old new (Some effect) is = leads old new _ is refl (same_self_uses old.ledger) refl refl

  astray : (old new : Cluster) (happened : Event) → Unanswered old happened new → Leads old new
  astray old new (event.Asks asked) is = absurd is
  astray old new (event.Settled repo storage lease) is = absurd is
  astray old new (event.Make storage repo lease) is =
      unanswered_call _ old new (effect_of old (event.Make storage repo lease)) is
  astray old new (event.Prepare tx storage push) is =
      unanswered_call _ old new (effect_of old (event.Prepare tx storage push)) is
  astray old new (event.Commit tx storage) is =
      unanswered_call _ old new (effect_of old (event.Commit tx storage)) is
  astray old new (event.Abort tx storage) is =
      unanswered_call _ old new (effect_of old (event.Abort tx storage)) is
  astray old new (event.Refs storage repo) is = absurd is
  astray old new (event.TakeSnapshot job lease) is = absurd is
  astray old new (event.Apply job lease) is =
      unanswered_call _ old new (effect_of old (event.Apply job lease)) is
  astray old new (event.Remove job lease) is =
      unanswered_call _ old new (effect_of old (event.Remove job lease)) is
  astray old new (event.Fence storage repo lease) is =
      unanswered_fence old new (effect_of old (event.Fence storage repo lease)) is
  astray old new event.Restart is = absurd is

  pub uses_kept : IsKept P
  uses_kept old new (Happens happened answer) holds is =
      by_event old new happened answer is holds
  uses_kept old new (GoesAstray happened) holds is = astray old new happened is holds
  uses_kept old new (IsLost storage test) holds is =
      leads old new _ is refl (same_self_uses old.ledger) refl refl holds
