-- A fence is delivered: it is raised at the node, and what that answers is kept where it holds the
-- repository. Where it does not, or the answer is lost, what is kept stays.
use Rattle.std.proofs.Common.{◌≡◌, ℕ, ◌≤◌, ◌<◌, ◌⊎◌, max, nat_lt, Bool, true, false, Option, None, Some, if◌then◌else◌, refl, sym, ◌∙◌, ap, subst, inl, inr, arith}
use Rattle.std.proofs.lemmas.Bool.Decides.{nat_tests}
use Rattle.px_base.specs.RefList.{References}
use Rattle.node_calls.specs.ReplicaState.{ReadyPush, ReplicaState, kept_above, raised}
use Rattle.px_cluster.specs.Cluster.{Cluster}
use Rattle.px_cluster.specs.Deliveries.{Fences, fence_kept}
use Rattle.px_cluster.specs.Astray.{FencesUnanswered}
use Rattle.px_cluster.specs.Effects.{Effect, effect_of, purpose_at, state_at}
use Rattle.px_cluster.specs.Events.{Answer}
use Rattle.px_cluster.specs.Events as event
use Rattle.px_cluster.specs.Ledger.{is_fence, with_last}
use Rattle.px_cluster.specs.Ledger as ledger
use Rattle.replica_invariant.specs.Repairs.{CanAnswer, fence_answered, raised_to}
use Rattle.replica_invariant.specs.Purposes.{Fencing}
use Rattle.replica_invariant.specs.State.{AtNode, ReadyPush as SeenPush, Replica, State, with_value}
use Rattle.safe_states.specs.Happens.{AnswersFence, MissesFence}
use Rattle.cluster_form.proofs.Lists.{bool, choose}
use Rattle.cluster_history.specs.Goes.{GoesOn, IsSound}
use Rattle.cluster_history.specs.History.{History, Whole}
use Rattle.cluster_history.specs.Remembered.{after_effect, is_refused}
use Rattle.cluster_history.specs.Seen.{seen_node, seen_purpose, seen_ready}
use Rattle.cluster_history.proofs.Effects.{fence_is, issued_is, nothing_goes}
use Rattle.cluster_history.proofs.Frame.{same_replica}
use Rattle.delivery_steps.specs.Deliveries.{FenceGoesOn, UnansweredFenceGoesOn}
use Rattle.delivery_steps.proofs.OneDelivery.{Target, after_done, at_its_path, before, cluster_now, drawn, node_goes, node_is, nothing_kept, now_at, read_level, ready_at, replica, state_before, target_of, unkept_goes}

-- ---- what is ready under a fence that rose

-- nothing, or what was ready, and then the fence stays
abbrev IsLeft : References → ℕ → ℕ → Option ReadyPush → Type 0
IsLeft refs was now ready = (seen_ready refs (kept_above now ready) ≡ None)
    ⊎ ((seen_ready refs (kept_above now ready) ≡ seen_ready refs ready) × (now ≡ was))

-- a push that is ready has the fence as its lease
is_left : (refs : References) (was now : ℕ) (ready : Option ReadyPush) → was ≤ now
    → ((push : ReadyPush) → ready ≡ Some push → was ≡ push.lease) → IsLeft refs was now ready
is_left refs was now None up own = inl refl
is_left refs was now (Some push) up own = elim (bool (nat_lt push.lease now)) [
  | inl holds ↦ inl (rw holds refl)
  | inr fails ↦ inr ((rw fails refl), (let same = own push refl in grind (arith, nat_tests)))
]

-- the greater of two numbers is one of them
one_of_two : (a b : ℕ) → (max a b ≡ b) ⊎ (max a b ≡ a)
one_of_two a b = elim (bool (nat_lt a b)) [
  | inl holds ↦ inl (let less : a < b = grind (arith, nat_tests) in omega (arith, less))
  | inr fails ↦ inr (let most : b ≤ a = grind (arith, nat_tests) in omega (arith, most))
]

-- ---- at one replica

module _ (whole : Whole) (sound : IsSound whole) (to : Target whole) (last : Option (Option ℕ))
    (drawn_is : drawn whole sound to ≡ ledger.Fencing last) where
  abbrev node : ReplicaState
  node = before whole sound to

  abbrev old : State
  old = state_before whole sound to

  abbrev seen : Replica
  seen = replica whole sound to

  same : seen.node ≡ seen_node node
  same = node_is whole sound to

  same_fence : node.fence ≡ seen.node.fence
  same_fence = ap (λ (n : AtNode). n.fence) (sym same)

  -- what the node has with the fence raised
  abbrev state : ReplicaState
  state = raised to.lease node

  abbrev top : ℕ
  top = max node.fence to.lease

  abbrev left : Option SeenPush
  left = seen_ready node.refs (kept_above top node.ready)

  up : node.fence ≤ top
  up = omega arith

  -- so a fence may be answered, or missed
  can : CanAnswer seen to.lease top left
  can = record {
    purpose = (last, ap (seen_purpose (read_level whole sound to)) drawn_is);
    up = subst (λ n. n ≤ top) same_fence up;
    reach = omega arith;
    least = elim (one_of_two node.fence to.lease) [
      | inl is ↦ inl is
      | inr is ↦ inr (is ∙ same_fence)
    ];
    ready_ =
        elim (is_left node.refs node.fence top node.ready up (ready_at whole sound to)) [
          | inl none ↦ inl none
          | inr stays ↦
              inr (stays.0 ∙ ap (λ (n : AtNode). n.ready) (sym same), stays.1 ∙ same_fence)
        ];
  }

  -- what either leaves is what is seen now
  state_is : seen_node state ≡ record seen.node { fence = top; ready = left }
  state_is = ap (λ (n : AtNode). record n { fence = top; ready = left }) (sym same)

  abbrev Leads : ledger.Purpose → Type 0
  Leads kept = GoesOn whole (record {
    cluster = cluster_now whole sound to state kept;
    history = whole.history;
  })

  -- no answer is kept
  misses : Leads (drawn whole sound to)
  misses = unkept_goes whole sound to state (raised_to seen top left)
      (same_replica (record seen { node = seen_node state }) (raised_to seen top left)
      refl refl refl state_is refl refl refl refl)
      (MissesFence old to.storage to.lease top left can)

  abbrev told : Replica
  told = now_at whole sound to state (ledger.Fencing (Some node.last)) seen.level seen.had

  -- the answer is kept
  answers : Leads (ledger.Fencing (Some node.last))
  answers = node_goes whole sound to state (ledger.Fencing (Some node.last))
      (fence_answered seen to.lease top left)
      (same_replica told (fence_answered seen to.lease top left) refl refl refl state_is refl refl
      (ap (λ (n : AtNode). with_value seen.purpose to.lease (Fencing (Some n.committed)))
      (sym same)) refl)
      (AnswersFence old to.storage to.lease top left can)

  -- what is kept depends on whether the node holds the repository
  fences : Leads (fence_kept node (drawn whole sound to))
  fences = choose Leads node.held (with_last node.last (drawn whole sound to))
      (drawn whole sound to)
      (λ held. subst Leads (sym (ap (with_last node.last) drawn_is)) answers) (λ missing. misses)

-- ---- by the effect

module _ (storage repo lease : ℕ) (whole : Whole) (sound : IsSound whole) where
  abbrev happened : event.Event
  happened = event.Fence storage repo lease

  -- what is remembered stays
  unchanged : (refused : Bool) (effect : Option Effect)
      → (if refused then whole.history else after_effect whole happened effect) ≡ whole.history
  unchanged true effect = refl
  unchanged false None = refl
  unchanged false (Some effect) = refl

  -- the node raised it, and this is kept
  module _ (keeps : ReplicaState → ledger.Purpose → ledger.Purpose)
      (leads : (to : Target whole) (last : Option (Option ℕ))
      → drawn whole sound to ≡ ledger.Fencing last → GoesOn whole (record {
        cluster = cluster_now whole sound to (raised to.lease (before whole sound to))
            (keeps (before whole sound to) (drawn whole sound to));
        history = whole.history;
      })) where
    fence_done : (effect : Effect) → effect_of whole.cluster happened ≡ Some effect
        → GoesOn whole (after_done whole happened effect
        (raised effect.lease (state_at whole.cluster effect.at))
        (keeps (state_at whole.cluster effect.at) (purpose_at whole.cluster effect)))
    fence_done effect is =
        let at = issued_is whole.cluster is_fence lease repo storage effect is in
        let drawn_is = fence_is (purpose_at whole.cluster effect) at.issued.passes in
        at_its_path (λ (x : Effect). GoesOn whole (after_done whole happened x
        (raised x.lease (state_at whole.cluster x.at))
        (keeps (state_at whole.cluster x.at) (purpose_at whole.cluster x))))
        whole.cluster effect at.issued.replica
        (leads (target_of whole effect at.issued.replica) (drawn_is.0) (drawn_is.1))

  -- it is answered, or was not issued
  by_answer : (effect : Option Effect) (answer : Answer) (new : Cluster)
      → effect_of whole.cluster happened ≡ effect → Fences whole.cluster effect answer new
      → GoesOn whole (record { cluster = new; history = whole.history })
  by_answer None answer new is delivers =
      subst (λ (c : Cluster). GoesOn whole (record { cluster = c; history = whole.history }))
      (sym delivers.1) (nothing_goes whole)
  by_answer (Some effect) answer new is delivers =
      subst (λ (c : Cluster). GoesOn whole (record { cluster = c; history = whole.history }))
      (sym delivers.1) (fence_done fence_kept (fences whole sound) effect is)

  -- its answer is lost
  by_loss : (effect : Option Effect) (new : Cluster) → effect_of whole.cluster happened ≡ effect
      → FencesUnanswered whole.cluster effect new
      → GoesOn whole (record { cluster = new; history = after_effect whole happened effect })
  by_loss None new is goes = absurd goes
  by_loss (Some effect) new is goes =
      subst (λ (c : Cluster). GoesOn whole (record { cluster = c; history = whole.history }))
      (sym goes) (nothing_kept whole happened effect
      (raised effect.lease (state_at whole.cluster effect.at))
      (fence_done (λ state purpose. purpose) (misses whole sound) effect is))

pub fence_goes : FenceGoesOn
fence_goes storage repo lease whole answer new sound one step =
    let effect = effect_of whole.cluster (event.Fence storage repo lease) in
    subst (λ (history : History). GoesOn whole (record { cluster = new; history = history }))
    (sym (unchanged storage repo lease whole sound (is_refused answer) effect))
    (by_answer storage repo lease whole sound effect answer new refl step)

pub unanswered_fence_goes : UnansweredFenceGoesOn
unanswered_fence_goes storage repo lease whole new sound one step =
    by_loss storage repo lease whole sound
    (effect_of whole.cluster (event.Fence storage repo lease)) new refl step
