-- A create is delivered.
use Rattle.std.proofs.Common.{◌≡◌, ℕ, ◌≤◌, ◌&&◌, not, [], Bool, true, false, None, Some, if◌then◌else◌, refl, sym, ◌∙◌, ap, subst}
use Rattle.px_ops.specs.declared.node_refusal.NodeRefusal.TheVariants.{RepoExists}
use Rattle.node_calls.specs.Calls.{CreateRefuses, Creates, fenced, has_none}
use Rattle.node_calls.specs.ReplicaState.{ReplicaState}
use Rattle.px_cluster.specs.Effects.{Effect, effect_of, purpose_at, state_at}
use Rattle.px_cluster.specs.Events as event
use Rattle.px_cluster.specs.Ledger.{answered, is_creation}
use Rattle.px_cluster.specs.Ledger as ledger
use Rattle.px_cluster.specs.Step.{tells_done}
use Rattle.replica_invariant.specs.Creations.{CanMake, made}
use Rattle.replica_invariant.specs.State.{AtNode, Replica, with_replica}
use Rattle.safe_states.specs.Happens.{Makes}
use Rattle.cluster_history.specs.Goes.{GoesOn, IsSound}
use Rattle.cluster_history.specs.History.{Whole, with_level}
use Rattle.cluster_history.specs.Seen.{seen_node, seen_purpose}
use Rattle.cluster_history.proofs.Effects.{creation_is, delivered_goes, issued_is}
use Rattle.cluster_history.proofs.Frame.{same_replica}
use Rattle.cluster_history.proofs.NodeCalls.{at_work, created_is, is_bare, neither, not_fenced}
use Rattle.delivery_steps.specs.Deliveries.{MakeGoesOn, UnansweredMakeGoesOn}
use Rattle.delivery_steps.proofs.OneDelivery.{after_done, answered_now, at_its_path, before, below, cluster_now, drawn, keeping, kept_is, live, node_is, lost_goes, now_at, reached_goes, read_level, replica, state_before, still_answered, Target, target_of}

module _ (whole : Whole) (sound : IsSound whole) (to : Target whole) (came earlier : Bool)
    (drawn_is : drawn whole sound to ≡ ledger.Creation earlier) (result : Unit {0})
    (state : ReplicaState) (does : Creates to.lease (before whole sound to) result state) where
  abbrev node : ReplicaState
  node = before whole sound to

  abbrev seen : Replica
  seen = replica whole sound to

  same : seen.node ≡ seen_node node
  same = node_is whole sound to

  accepted : (fenced to.lease node ≡ None)
      × ((if node.held && not (has_none node.refs) then Some RepoExists else None) ≡ None)
  accepted = neither (fenced to.lease node)
      (if node.held && not (has_none node.refs) then Some RepoExists else None) does.accepted

  -- the lease is not below the fence
  above : node.fence ≤ to.lease
  above = not_fenced to.lease node accepted.0

  -- so the event may happen, whether it is answered or not
  can : CanMake seen to.lease earlier
  can = record {
    purpose = ap (seen_purpose (read_level whole sound to)) drawn_is;
    live = live whole sound to above;
    bare = λ held. ap (λ (n : AtNode). n.refs) same
        ∙ is_bare node accepted.1 (sym (ap (λ (n : AtNode). n.held) same) ∙ held);
  }

  abbrev now : Replica
  now = made seen to.lease (answered_now came earlier)

  abbrev kept : ledger.Purpose
  kept = keeping came (drawn whole sound to)

  -- and what it leaves is what is seen now
  now_is : now_at whole sound to state kept (Some 0) true ≡ now
  now_is = same_replica (now_at whole sound to state kept (Some 0) true) now refl refl refl
      (ap seen_node does.is ∙ created_is to.lease node above (below whole sound to above)
      ∙ ap (λ (n : AtNode). at_work to.lease node above [] n.committed) (sym same)) refl refl
      (kept_is whole sound to ledger.Creation (λ b. refl) came earlier drawn_is) refl

  makes : GoesOn whole (record {
    cluster = cluster_now whole sound to state kept;
    history = with_level whole.history to.repo to.storage 0;
  })
  makes = reached_goes whole sound to state kept whole.history.entry (λ x differs. refl) (Some 0)
      (with_replica (state_before whole sound to) to.storage now)
      (ap (with_replica (state_before whole sound to) to.storage) now_is)
      (Makes (state_before whole sound to) to.storage to.lease earlier (answered_now came earlier)
      can (still_answered came earlier))

-- ---- by the effect

-- it was done, and its answer is kept or lost
make_done : (storage repo lease : ℕ) (whole : Whole) → IsSound whole → (came : Bool)
    (effect : Effect) (result : Unit {0}) (state : ReplicaState)
    → effect_of whole.cluster (event.Make storage repo lease) ≡ Some effect
    → Creates lease (state_at whole.cluster effect.at) result state
    → GoesOn whole (after_done whole (event.Make storage repo lease) effect state
    (keeping came (purpose_at whole.cluster effect)))
make_done storage repo lease whole sound came effect result state is does =
    let at = issued_is whole.cluster is_creation lease repo storage effect is in
    let drawn_is = creation_is (purpose_at whole.cluster effect) at.issued.passes in
    at_its_path (λ (x : Effect). Creates x.lease (state_at whole.cluster x.at) result state
    → GoesOn whole (after_done whole (event.Make storage repo lease) x state
    (keeping came (purpose_at whole.cluster x)))) whole.cluster effect at.issued.replica
    (makes whole sound (target_of whole effect at.issued.replica) came (drawn_is.0) (drawn_is.1)
    result state)
    (subst (λ n. Creates n (state_at whole.cluster effect.at) result state) (sym at.lease_) does)

pub make_goes : MakeGoesOn
make_goes storage repo lease whole answer new sound one step =
    delivered_goes (CreateRefuses lease) (Creates lease) tells_done answered whole
    (event.Make storage repo lease) (λ result. refl)
    (make_done storage repo lease whole sound true) answer new step

pub unanswered_make_goes : UnansweredMakeGoesOn
unanswered_make_goes storage repo lease whole new sound one step =
    lost_goes (Creates lease) whole (event.Make storage repo lease)
    (make_done storage repo lease whole sound false) new step
