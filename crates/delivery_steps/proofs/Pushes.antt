-- A prepare or an abort is delivered: of neither is an answer kept.
use Rattle.std.proofs.Common.{◌≡◌, ℕ, ◌≤◌, ◌+◌, Bool, Option, None, Some, refl, sym, ◌∙◌, ap, subst}
use Rattle.std.specs.Option.{option_or}
use Rattle.px_base.specs.declared.hash.Hash.{Hash}
use Rattle.px_base.specs.declared.ids.TxId.{TxId}
use Rattle.px_base.specs.declared.push.Push.{Push}
use Rattle.objstore.specs.Bundle.{bundle_fault}
use Rattle.refstore.specs.Hook.{vote_on}
use Rattle.refstore.specs.Updates.{after, refusal_of}
use Rattle.node_calls.specs.Calls.{AbortRefuses, Aborts, PrepareRefuses, Prepares, fenced, not_held}
use Rattle.node_calls.specs.Refusals.{of_bundle, of_updates}
use Rattle.node_calls.specs.ReplicaState.{ReplicaState}
use Rattle.px_cluster.specs.Cluster.{Destination}
use Rattle.px_cluster.specs.Effects.{Effect, effect_of, purpose_at, state_at}
use Rattle.px_cluster.specs.Events.{Voted}
use Rattle.px_cluster.specs.Events as event
use Rattle.px_cluster.specs.Ledger.{is_push}
use Rattle.px_cluster.specs.Ledger as ledger
use Rattle.px_cluster.specs.Step.{keeps_nothing, lease_of, tells_done}
use Rattle.replica_invariant.specs.Pushes.{IsOfPush, prepared, raised}
use Rattle.replica_invariant.specs.State.{AtNode, Replica}
use Rattle.safe_states.specs.Happens.{Aborts as IsAborted, Prepares as IsPrepared}
use Rattle.cluster_history.specs.Goes.{GoesOn, IsOneListUnder, IsSound}
use Rattle.cluster_history.specs.History.{Whole}
use Rattle.cluster_history.specs.Seen.{seen_node, seen_purpose}
use Rattle.cluster_history.proofs.Effects.{delivered_goes, push_is, sent_is}
use Rattle.cluster_history.proofs.Frame.{same_replica}
use Rattle.cluster_history.proofs.NodeCalls.{aborted_is, is_held, neither, not_fenced, prepared_is}
use Rattle.delivery_steps.specs.Deliveries.{AbortGoesOn, PrepareGoesOn, UnansweredAbortGoesOn, UnansweredPrepareGoesOn}
use Rattle.delivery_steps.proofs.OneDelivery.{Target, after_done, at_its_path, before, cluster_now, drawn, live, node_is, lost_goes, read_level, replica, state_before, target_of, unkept_goes}

module _ (whole : Whole) (sound : IsSound whole) (to : Target whole) (begun : ℕ)
    (commit : Option Hash) (answered : Bool)
    (drawn_is : drawn whole sound to ≡ ledger.Pushing begun commit answered)
    (state : ReplicaState) where
  abbrev node : ReplicaState
  node = before whole sound to

  abbrev seen : Replica
  seen = replica whole sound to

  same : seen.node ≡ seen_node node
  same = node_is whole sound to

  -- the lease was drawn for a push
  of_push : IsOfPush (seen.purpose to.lease)
  of_push = (begun, commit, answered, ap (seen_purpose (read_level whole sound to)) drawn_is)

  -- nothing is remembered of either, nor kept
  abbrev Goes : Type 0
  Goes = GoesOn whole (record {
    cluster = cluster_now whole sound to state (drawn whole sound to);
    history = whole.history;
  })

  -- the push is ready
  prepares : (push : Push) (result : Hash)
      → push.updates ≡ whole.history.text to.repo to.lease (vote_on push.updates)
      → Prepares to.lease push node result state → Goes
  prepares push result one does =
      let faults = option_or (of_bundle (bundle_fault node.objects 0 push.objects))
      (of_updates (refusal_of node.refs push.updates)) in
      let accepted =
      neither (fenced to.lease node) (option_or (not_held node) faults) does.accepted in
      let above : node.fence ≤ to.lease = not_fenced to.lease node accepted.0 in
      let held = is_held node (neither (not_held node) faults accepted.1).0 in
      unkept_goes whole sound to state (prepared seen to.lease push.updates)
      (same_replica (record seen { node = seen_node state }) (prepared seen to.lease push.updates)
      refl refl refl
      (ap seen_node does.is ∙ prepared_is to.lease node above push
      ∙ ap (λ (n : AtNode). record n {
        fence = to.lease;
        ready = Some (record {
          lease = to.lease;
          updates = push.updates;
          content = after n.refs push.updates;
        });
      }) (sym same)) refl refl refl refl)
      (IsPrepared (state_before whole sound to) to.storage to.lease push.updates (record {
        purpose = of_push;
        live = live whole sound to above;
        held = ap (λ (n : AtNode). n.held) same ∙ held;
        text = one;
      }))

  -- none is
  aborts : (result : Unit {0}) → Aborts to.lease node result state → Goes
  aborts result does =
      let accepted = neither (fenced to.lease node) (not_held node) does.accepted in
      let above : node.fence ≤ to.lease = not_fenced to.lease node accepted.0 in
      unkept_goes whole sound to state (raised seen (to.lease + 1))
      (same_replica (record seen { node = seen_node state }) (raised seen (to.lease + 1))
      refl refl refl
      (ap seen_node does.is ∙ aborted_is to.lease node above
      ∙ ap (λ (n : AtNode). record n { fence = to.lease + 1; ready = None }) (sym same))
      refl refl refl refl)
      (IsAborted (state_before whole sound to) to.storage to.lease
      (record { purpose = of_push; live = live whole sound to above }))

-- ---- by the effect

-- the list is the one of the push that the transaction leads to
one_list : (whole : Whole) (push : Push) (there : Option Destination) (to : Destination)
    → there ≡ Some to → IsOneListUnder whole there push
    → push.updates ≡ whole.history.text to.repo to.number (vote_on push.updates)
one_list whole push there to is one = subst (λ x. IsOneListUnder whole x push) is one

-- it was done
prepare_done : (tx : TxId) (storage : ℕ) (push : Push) (whole : Whole) → IsSound whole
    → IsOneListUnder whole (whole.cluster.pushed tx.0) push → (effect : Effect) (result : Hash)
    (state : ReplicaState) → effect_of whole.cluster (event.Prepare tx storage push) ≡ Some effect
    → Prepares (lease_of (effect_of whole.cluster (event.Prepare tx storage push))) push
    (state_at whole.cluster effect.at) result state
    → GoesOn whole (after_done whole (event.Prepare tx storage push) effect state
    (purpose_at whole.cluster effect))
prepare_done tx storage push whole sound one effect result state is does =
    let sent = sent_is whole.cluster is_push tx.0 storage effect is in
    let found = sent.at.issued.replica in
    let drawn_is = push_is (purpose_at whole.cluster effect) sent.at.issued.passes in
    at_its_path (λ (x : Effect). Prepares x.lease push (state_at whole.cluster x.at) result state
    → GoesOn whole (after_done whole (event.Prepare tx storage push) x state
    (purpose_at whole.cluster x))) whole.cluster effect found
    (prepares whole sound (target_of whole effect found) (drawn_is.0) (drawn_is.1) (drawn_is.2)
    (drawn_is.3) state push result
    (one_list whole push (whole.cluster.pushed tx.0) sent.to sent.pushed one
    ∙ (λ i. whole.history.text (sym sent.at.repo_ i) (sym sent.at.lease_ i)
    (vote_on push.updates))))
    (subst (λ there. Prepares (lease_of there) push (state_at whole.cluster effect.at) result state)
    is does)

-- .. and so was an abort
abort_done : (tx : TxId) (storage : ℕ) (whole : Whole) → IsSound whole → (effect : Effect)
    (result : Unit {0}) (state : ReplicaState)
    → effect_of whole.cluster (event.Abort tx storage) ≡ Some effect
    → Aborts (lease_of (effect_of whole.cluster (event.Abort tx storage)))
    (state_at whole.cluster effect.at) result state
    → GoesOn whole (after_done whole (event.Abort tx storage) effect state
    (purpose_at whole.cluster effect))
abort_done tx storage whole sound effect result state is does =
    let sent = sent_is whole.cluster is_push tx.0 storage effect is in
    let found = sent.at.issued.replica in
    let drawn_is = push_is (purpose_at whole.cluster effect) sent.at.issued.passes in
    at_its_path (λ (x : Effect). Aborts x.lease (state_at whole.cluster x.at) result state
    → GoesOn whole (after_done whole (event.Abort tx storage) x state
    (purpose_at whole.cluster x))) whole.cluster effect found
    (aborts whole sound (target_of whole effect found) (drawn_is.0) (drawn_is.1) (drawn_is.2)
    (drawn_is.3) state result)
    (subst (λ there. Aborts (lease_of there) (state_at whole.cluster effect.at) result state)
    is does)

pub prepare_goes : PrepareGoesOn
prepare_goes tx storage push whole answer new sound one step =
    let lease = lease_of (effect_of whole.cluster (event.Prepare tx storage push)) in
    delivered_goes (PrepareRefuses lease push) (Prepares lease push) Voted keeps_nothing whole
    (event.Prepare tx storage push) (λ result. refl)
    (prepare_done tx storage push whole sound one) answer new step

pub unanswered_prepare_goes : UnansweredPrepareGoesOn
unanswered_prepare_goes tx storage push whole new sound one step =
    let lease = lease_of (effect_of whole.cluster (event.Prepare tx storage push)) in
    lost_goes (Prepares lease push) whole (event.Prepare tx storage push)
    (prepare_done tx storage push whole sound one) new step

pub abort_goes : AbortGoesOn
abort_goes tx storage whole answer new sound one step =
    let lease = lease_of (effect_of whole.cluster (event.Abort tx storage)) in
    delivered_goes (AbortRefuses lease) (Aborts lease) tells_done keeps_nothing whole
    (event.Abort tx storage) (λ result. refl)
    (abort_done tx storage whole sound) answer new step

pub unanswered_abort_goes : UnansweredAbortGoesOn
unanswered_abort_goes tx storage whole new sound one step =
    let lease = lease_of (effect_of whole.cluster (event.Abort tx storage)) in
    lost_goes (Aborts lease) whole (event.Abort tx storage)
    (abort_done tx storage whole sound) new step
