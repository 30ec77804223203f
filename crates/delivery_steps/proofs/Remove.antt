-- A remove is delivered.
use Rattle.std.proofs.Common.{◌≡◌, ℕ, ◌≤◌, ◌+◌, [], Bool, true, false, Option, None, Some, refl, sym, ◌∙◌, ap, subst}
use Rattle.node_calls.specs.Calls.{RemoveRefuses, Removes}
use Rattle.node_calls.specs.ReplicaState.{ReplicaState}
use Rattle.px_cluster.specs.Effects.{Effect, effect_of, purpose_at, state_at}
use Rattle.px_cluster.specs.Events as event
use Rattle.px_cluster.specs.Ledger.{answered, is_delete_of}
use Rattle.px_cluster.specs.Ledger as ledger
use Rattle.px_cluster.specs.Step.{tells_done}
use Rattle.replica_invariant.specs.Jobs.{CanRemove, removed}
use Rattle.replica_invariant.specs.State.{AtNode, Replica, with_replica}
use Rattle.safe_states.specs.Happens.{Removes as IsRemoved}
use Rattle.cluster_history.specs.Goes.{GoesOn, IsSound}
use Rattle.cluster_history.specs.History.{Whole, without_level}
use Rattle.cluster_history.specs.Seen.{seen_node, seen_purpose}
use Rattle.cluster_history.proofs.Effects.{delivered_goes, work_is}
use Rattle.cluster_history.proofs.Frame.{same_replica}
use Rattle.cluster_history.proofs.NodeCalls.{not_fenced, removed_is}
use Rattle.delivery_steps.specs.Deliveries.{RemoveGoesOn, UnansweredRemoveGoesOn}
use Rattle.delivery_steps.proofs.OneDelivery.{Target, after_done, answered_now, at_its_path, before, below, cluster_now, drawn, keeping, level_goes, kept_is, live, node_is, lost_goes, now_at, read_level, replica, state_before, target_of}
use Rattle.delivery_steps.proofs.Purposes.{delete_is}

module _ (whole : Whole) (sound : IsSound whole) (to : Target whole) (came : Bool) (job : ℕ)
    (earlier : Bool) (drawn_is : drawn whole sound to ≡ ledger.Deleting job earlier)
    (result : Unit {0}) (state : ReplicaState)
    (does : Removes to.lease (before whole sound to) result state) where
  abbrev node : ReplicaState
  node = before whole sound to

  abbrev seen : Replica
  seen = replica whole sound to

  -- the lease is not below the fence
  above : node.fence ≤ to.lease
  above = not_fenced to.lease node does.accepted

  -- so the event may happen, whether it is answered or not
  can : CanRemove seen to.lease earlier
  can = record {
    purpose = ap (seen_purpose (read_level whole sound to)) drawn_is;
    live = live whole sound to above;
  }

  abbrev kept : ledger.Purpose
  kept = keeping came (drawn whole sound to)

  abbrev now : Replica
  now = removed seen to.lease (answered_now came earlier)

  -- what a node has of a repository that it does not hold any more
  abbrev gone : Option ℕ → AtNode
  gone committed = record {
    held = false;
    refs = [];
    fence = to.lease + 1;
    committed = committed;
    ready = None;
  }

  -- and what it leaves is what is seen now
  now_is : now_at whole sound to state kept None seen.had ≡ now
  now_is = same_replica (now_at whole sound to state kept None seen.had) now refl refl refl
      (ap seen_node does.is ∙ removed_is to.lease node above (below whole sound to above)
      ∙ ap (λ (n : AtNode). gone n.committed) (sym (node_is whole sound to))) refl refl
      (kept_is whole sound to (ledger.Deleting job) (λ b. refl) came earlier drawn_is) refl

  removes : GoesOn whole (record {
    cluster = cluster_now whole sound to state kept;
    history = without_level whole.history to.repo to.storage;
  })
  removes = level_goes whole sound to state kept whole.history.entry (λ x differs. refl) None
      (with_replica (state_before whole sound to) to.storage now)
      (ap (with_replica (state_before whole sound to) to.storage) now_is)
      (IsRemoved (state_before whole sound to) to.storage to.lease earlier
      (answered_now came earlier) can)

-- ---- by the effect

-- it was done, and its answer is kept or lost
remove_done : (job lease : ℕ) (whole : Whole) → IsSound whole → (came : Bool) (effect : Effect)
    (result : Unit {0}) (state : ReplicaState)
    → effect_of whole.cluster (event.Remove job lease) ≡ Some effect
    → Removes lease (state_at whole.cluster effect.at) result state
    → GoesOn whole (after_done whole (event.Remove job lease) effect state
    (keeping came (purpose_at whole.cluster effect)))
remove_done job lease whole sound came effect result state is does =
    let work = work_is whole.cluster (is_delete_of job) job lease effect is in
    let found = work.at.issued.replica in
    let drawn_is = delete_is job (purpose_at whole.cluster effect) work.at.issued.passes in
    at_its_path (λ (x : Effect). Removes x.lease (state_at whole.cluster x.at) result state
    → GoesOn whole (after_done whole (event.Remove job lease) x state
    (keeping came (purpose_at whole.cluster x)))) whole.cluster effect found
    (removes whole sound (target_of whole effect found) came (drawn_is.0) (drawn_is.1) (drawn_is.2)
    result state)
    (subst (λ n. Removes n (state_at whole.cluster effect.at) result state) (sym work.at.lease_)
    does)

pub remove_goes : RemoveGoesOn
remove_goes job lease whole answer new sound one step =
    delivered_goes (RemoveRefuses lease) (Removes lease) tells_done answered whole
    (event.Remove job lease) (λ result. refl)
    (remove_done job lease whole sound true) answer new step

pub unanswered_remove_goes : UnansweredRemoveGoesOn
unanswered_remove_goes job lease whole new sound one step =
    lost_goes (Removes lease) whole (event.Remove job lease)
    (remove_done job lease whole sound false) new step
