-- An apply is delivered.
use Rattle.std.proofs.Common.{◌≡◌, ℕ, ◌≤◌, Bool, true, false, Some, is_some, refl, sym, ◌∙◌, ap, subst}
use Rattle.objstore.specs.Bundle.{bundle_fault}
use Rattle.node_calls.specs.Calls.{Applies, fenced}
use Rattle.node_calls.specs.Refusals.{of_bundle}
use Rattle.node_calls.specs.ReplicaState.{ReplicaState}
use Rattle.node_calls.specs.declared.snapshot.Snapshot.{Snapshot}
use Rattle.px_cluster.specs.Effects.{Effect, effect_of, purpose_at, snapshot_of, state_at}
use Rattle.px_cluster.specs.Events as event
use Rattle.px_cluster.specs.Ledger.{answered, snapshot_in}
use Rattle.px_cluster.specs.Ledger as ledger
use Rattle.px_cluster.specs.Step.{AppliesAs, ApplyRefusesAs, tells_done}
use Rattle.replica_invariant.specs.Jobs.{CanApply, applied}
use Rattle.replica_invariant.specs.State.{AtNode, Replica, with_replica}
use Rattle.safe_states.specs.Happens.{Applies as IsApplied}
use Rattle.cluster_history.specs.Goes.{GoesOn, IsSound}
use Rattle.cluster_history.specs.History.{Whole, with_level}
use Rattle.cluster_history.specs.Seen.{seen_node, seen_purpose}
use Rattle.cluster_history.proofs.Effects.{delivered_goes, work_is}
use Rattle.cluster_history.proofs.Frame.{same_replica}
use Rattle.cluster_history.proofs.NodeCalls.{applied_is, at_work, neither, not_fenced}
use Rattle.delivery_steps.specs.Deliveries.{ApplyGoesOn, UnansweredApplyGoesOn}
use Rattle.delivery_steps.proofs.OneDelivery.{Target, after_done, answered_now, at_its_path, before, below, cluster_now, drawn, keeping, kept_is, live, node_is, lost_goes, now_at, reached_goes, read_level, replica, state_before, target_of}
use Rattle.delivery_steps.proofs.Purposes.{apply_is}

module _ (whole : Whole) (sound : IsSound whole) (to : Target whole) (came : Bool)
    (job source generation : ℕ) (snapshot : Snapshot) (earlier : Bool)
    (drawn_is : drawn whole sound to
    ≡ ledger.Updating job source generation (Some snapshot) earlier) (result : Unit {0})
    (state : ReplicaState)
    (does : Applies to.lease snapshot (before whole sound to) result state) where
  abbrev node : ReplicaState
  node = before whole sound to

  abbrev seen : Replica
  seen = replica whole sound to

  abbrev level : ℕ
  level = read_level whole sound to

  -- the lease is not below the fence
  above : node.fence ≤ to.lease
  above = not_fenced to.lease node (neither (fenced to.lease node)
      (of_bundle (bundle_fault node.objects 0 snapshot.objects)) does.accepted).0

  -- so the event may happen, whether it is answered or not
  can : CanApply seen to.lease source generation level snapshot.refs earlier
  can = record {
    purpose = ap (seen_purpose level) drawn_is;
    live = live whole sound to above;
  }

  abbrev kept : ledger.Purpose
  kept = keeping came (drawn whole sound to)

  abbrev now : Replica
  now = applied seen to.lease source generation snapshot.refs level (answered_now came earlier)

  -- and what it leaves is what is seen now
  now_is : now_at whole sound to state kept (Some level) true ≡ now
  now_is = same_replica (now_at whole sound to state kept (Some level) true) now refl refl refl
      (ap seen_node does.is
      ∙ applied_is to.lease node above snapshot (below whole sound to above)
      ∙ ap (λ (n : AtNode). at_work to.lease node above snapshot.refs n.committed)
      (sym (node_is whole sound to))) refl refl
      (kept_is whole sound to (ledger.Updating job source generation (Some snapshot)) (λ b. refl)
      came earlier drawn_is) refl

  applies : GoesOn whole (record {
    cluster = cluster_now whole sound to state kept;
    history = with_level whole.history to.repo to.storage level;
  })
  applies = reached_goes whole sound to state kept whole.history.entry (λ x differs. refl)
      (Some level) (with_replica (state_before whole sound to) to.storage now)
      (ap (with_replica (state_before whole sound to) to.storage) now_is)
      (IsApplied (state_before whole sound to) to.storage to.lease source generation level
      snapshot.refs earlier (answered_now came earlier) can)

-- ---- by the effect

-- it was done, and its answer is kept or lost
apply_done : (job lease : ℕ) (whole : Whole) → IsSound whole → (came : Bool) (effect : Effect)
    (result : Unit {0}) (state : ReplicaState)
    → effect_of whole.cluster (event.Apply job lease) ≡ Some effect
    → AppliesAs lease
    (snapshot_of whole.cluster job (effect_of whole.cluster (event.Apply job lease)))
    (state_at whole.cluster effect.at) result state
    → GoesOn whole (after_done whole (event.Apply job lease) effect state
    (keeping came (purpose_at whole.cluster effect)))
apply_done job lease whole sound came effect result state is does =
    let work = work_is whole.cluster (λ p. is_some (snapshot_in job p)) job lease effect is in
    let found = work.at.issued.replica in
    let drawn_is = apply_is job (purpose_at whole.cluster effect) work.at.issued.passes in
    let under : AppliesAs lease (snapshot_in job (purpose_at whole.cluster effect))
    (state_at whole.cluster effect.at) result state = subst (λ there. AppliesAs lease
    (snapshot_of whole.cluster job there) (state_at whole.cluster effect.at) result state)
    is does in
    let with_it : Applies lease drawn_is.snapshot (state_at whole.cluster effect.at) result state =
    subst (λ snapshot. AppliesAs lease snapshot (state_at whole.cluster effect.at) result state)
    drawn_is.kept under in
    at_its_path (λ (x : Effect). Applies x.lease drawn_is.snapshot (state_at whole.cluster x.at)
    result state → GoesOn whole (after_done whole (event.Apply job lease) x state
    (keeping came (purpose_at whole.cluster x)))) whole.cluster effect found
    (applies whole sound (target_of whole effect found) came drawn_is.job drawn_is.source
    drawn_is.generation drawn_is.snapshot drawn_is.answered drawn_is.is result state)
    (subst (λ n. Applies n drawn_is.snapshot (state_at whole.cluster effect.at) result state)
    (sym work.at.lease_) with_it)

pub apply_goes : ApplyGoesOn
apply_goes job lease whole answer new sound one step =
    let snapshot =
    snapshot_of whole.cluster job (effect_of whole.cluster (event.Apply job lease)) in
    delivered_goes (ApplyRefusesAs lease snapshot) (AppliesAs lease snapshot) tells_done answered
    whole (event.Apply job lease) (λ result. refl)
    (apply_done job lease whole sound true) answer new step

pub unanswered_apply_goes : UnansweredApplyGoesOn
unanswered_apply_goes job lease whole new sound one step =
    let snapshot =
    snapshot_of whole.cluster job (effect_of whole.cluster (event.Apply job lease)) in
    lost_goes (AppliesAs lease snapshot) whole (event.Apply job lease)
    (apply_done job lease whole sound false) new step
