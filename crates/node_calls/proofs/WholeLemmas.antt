-- What holds of each repository of a node, each call keeps.
use Rattle.std.proofs.Common.{◌≡◌, ◌+◌, ◌<◌, ◌≤◌, ◌==◌, ℕ, max, List, [], true, false, cond, Bool, Option, Some, None, arith, refl, sym, ◌∙◌, subst}
use Rattle.std.specs.Prelude.{nat_lt, IfSome}
use Rattle.std.specs.List.Sorted.{IsStrictlySortedBy}
use Rattle.std.specs.Map.{values_of}
use Rattle.std.proofs.lemmas.Bool.{cond-true, lt-ltb, ltb-false}
use Rattle.std.proofs.lemmas.List.Elements.{All-nil}
use Rattle.std.proofs.lemmas.Option.{IfSome_then}
use Rattle.px_base.proofs.Lists.{no_refs}
use Rattle.px_base.specs.Object.{GitObject}
use Rattle.px_base.specs.RefList.{IsRefList}
use Rattle.px_base.specs.declared.hash.Hash.{Hash}
use Rattle.px_base.specs.declared.push.Push.{Push}
use Rattle.objstore.proofs.BundleAfter.{IsStore-with_objects, kept_all, object_at-with_objects}
use Rattle.objstore.specs.Bundle.{bundle_fault, with_objects}
use Rattle.objstore.specs.Entries.{IsStore, object_at}
use Rattle.objstore.specs.Reach.{IsClosed, Objects}
use Rattle.px_base.specs.Update.{AreUpdates}
use Rattle.refstore.specs.Updates.{after}
use Rattle.node_calls.proofs.FenceLemmas.{fence_passed}
use Rattle.node_calls.proofs.OptionLemmas.{no_first, no_second}
use Rattle.node_calls.proofs.ReachLemmas.{HasAll, IsClosedFrom, all_from_more, closed_by, closed_more}
use Rattle.node_calls.proofs.RefusalLemmas.{objects_come, updates_fit}
use Rattle.node_calls.proofs.StepLemmas.{Keeps, run_keeps, step_keeps}
use Rattle.node_calls.proofs.TipLemmas.{all_after}
use Rattle.node_calls.proofs.UpdateLemmas.{IsRefList-fits, name_stands}
use Rattle.node_calls.specs.Calls.{Aborts, Applies, Commits, Creates, Prepares, Removes, fenced, new_tips, not_held, ready_under, with_coming}
use Rattle.node_calls.specs.ReplicaState.{NodeState, ReplicaState, ReadyPush, kept_above, nothing, raised}
use Rattle.node_calls.specs.Refusals.{of_bundle}
use Rattle.node_calls.specs.Whole.{IsWhole, IsWholeReplica, IsWholePush}
use Rattle.node_calls.specs.Steps.{IsRun, IsStep}
use Rattle.px_ops.specs.declared.node_refusal.NodeRefusal.{NodeRefusal}
use Rattle.px_ops.specs.declared.node_refusal.NodeRefusal.TheVariants.{NoRepo}
use Rattle.node_calls.specs.declared.snapshot.Snapshot.{Snapshot}

-- ---- a repository without objects

no_store : IsStore []
unfolding IsStrictlySortedBy
no_store = record { ordered = tt; named = λ id object has. absurd (cc) }

no_tips : (objects : Objects) → IsClosed objects []
no_tips objects = closed_by objects [] (All-nil (IsClosedFrom objects))

pub nothing_is_whole : IsWholeReplica nothing
nothing_is_whole = record {
  store = no_store;
  refs = no_refs;
  closed = no_tips (object_at []);
  ready = tt;
}

-- ---- objects come

module _ (place : ReplicaState) (objects : List GitObject)
    (none : bundle_fault place.objects 0 objects ≡ None) where
  -- what was there is there then
  has_old : HasAll (object_at place.objects) (object_at (with_objects place.objects objects))
  has_old q found has = kept_all place.objects 0 objects none found q has

  -- and so is what is there or comes
  has_coming : HasAll (with_coming place objects) (object_at (with_objects place.objects objects))
  has_coming q found has = object_at-with_objects place.objects 0 objects none q ∙ has

-- ---- the push that is ready, and the fence

-- its lease is the fence
leases : (place : ReplicaState) → IsWholeReplica place
    → IfSome place.ready (λ push. push.lease ≡ place.fence)
leases place whole = IfSome_then place.ready whole.ready (λ push is. is.fenced)

-- so it is dropped where the fence rises
dropped : (to fence : ℕ) (ready : Option ReadyPush) → IfSome ready (λ push. push.lease ≡ fence)
    → fence < to → kept_above to ready ≡ None
dropped to fence None same above = refl
dropped to fence (Some push) same above =
    cond-true (nat_lt push.lease to) None (Some push) (lt-ltb push.lease to (omega arith))

-- a place whose fence rises is whole, where its store and its references are
settled : (to : ℕ) (now : ReplicaState) → IfSome now.ready (λ push. push.lease ≡ now.fence)
    → now.fence < to → IsStore now.objects → IsRefList now.refs
    → IsClosed (object_at now.objects) (values_of now.refs) → IsWholeReplica (raised to now)
settled to now same above store refs closed = record {
  store = store;
  refs = refs;
  closed = closed;
  ready = subst (λ (r : Option ReadyPush). IfSome r (λ push. IsWholePush (raised to now) push))
      (sym (dropped (max now.fence to) now.fence now.ready same (omega arith))) tt;
}

-- and where it does not rise the push stays
kept : (lease : ℕ) (place : ReplicaState) (ready : Option ReadyPush)
    → IfSome ready (λ push. IsWholePush place push)
    → IfSome (kept_above (max place.fence lease) ready)
    (λ push. IsWholePush (raised lease place) push)
kept lease place None whole = tt
kept lease place (Some push) whole = at (nat_lt push.lease (max place.fence lease)) refl
  where
    at : (b : Bool) → nat_lt push.lease (max place.fence lease) ≡ b
        → IfSome (cond b None (Some push)) (λ push. IsWholePush (raised lease place) push)
    at true below = tt
    at false above =
        let no_less : max place.fence lease ≤ push.lease =
        ltb-false push.lease (max place.fence lease) above in
        record {
          held = whole.held;
          fenced = omega (arith, no_less, whole.fenced);
          updates = whole.updates;
          fits = whole.fits;
          comes = whole.comes;
          closed = whole.closed;
        }

-- ---- what each call makes of a place

-- what holds of the one holds of the other
abbrev pub StaysWhole : ReplicaState → ReplicaState → Type 0
StaysWhole place then_ = IsWholeReplica place → IsWholeReplica then_

creates : (lease : ℕ) (place : ReplicaState) (answer : Unit {0}) (then_ : ReplicaState)
    → Creates lease place answer then_ → StaysWhole place then_
creates lease place answer then_ done whole =
    let passed = fence_passed lease place (no_first _ _ done.accepted) in
    subst IsWholeReplica (sym done.is)
    (settled (lease + 1) (record place { held = true; refs = []; objects = [] })
    (leases place whole) passed no_store no_refs (no_tips (object_at [])))

is_held : (place : ReplicaState) → not_held place ≡ None → place.held ≡ true
is_held place none = at place.held refl none
  where
    at : (b : Bool) → place.held ≡ b → cond {A = Option NodeRefusal} b None (Some NoRepo) ≡ None
        → place.held ≡ true
    at true is none = is
    at false is none = absurd (cc)

is_fence : (lease fence : ℕ) → fence < lease + 1 → lease ≡ max fence lease
is_fence lease fence passed = omega arith

prepares : (lease : ℕ) (push : Push) (place : ReplicaState) (answer : Hash) (then_ : ReplicaState)
    → AreUpdates push.updates → Prepares lease push place answer then_ → StaysWhole place then_
prepares lease push place answer then_ lawful done whole =
    let passed = fence_passed lease place (no_first _ _ done.accepted) in
    let after_fence = no_second (fenced lease place) _ done.accepted in
    let after_held = no_second (not_held place) _ after_fence in
    let comes = objects_come place.objects push.objects
    (no_first (of_bundle (bundle_fault place.objects 0 push.objects)) _ after_held) in
    let more : Objects = object_at (with_objects place.objects push.objects) in
    subst IsWholeReplica (sym done.is) (record {
      store = whole.store;
      refs = whole.refs;
      closed = whole.closed;
      ready = record {
        held = is_held place (no_first (not_held place) _ after_fence);
        fenced = is_fence lease place.fence passed;
        updates = lawful;
        fits = updates_fit place.refs push.updates
            (no_second (of_bundle (bundle_fault place.objects 0 push.objects)) _ after_held);
        comes = comes;
        closed = closed_by more (values_of (after place.refs push.updates))
            (all_after (IsClosedFrom more) place.refs push.updates
            (all_from_more (object_at place.objects) more
            (has_old place push.objects comes) (values_of place.refs) whole.closed)
            (all_from_more (with_coming place push.objects) more
            (has_coming place push.objects comes) (new_tips push.updates) done.closed));
      };
    })

-- the push of a lease is the one that is ready
is_ready : (lease : ℕ) (ready : Option ReadyPush) (push : ReadyPush)
    → ready_under lease ready ≡ Some push → ready ≡ Some push
is_ready lease None push is = absurd (cc)
is_ready lease (Some other) push is = at (other.lease == lease) is
  where
    at : (b : Bool) → cond {A = Option ReadyPush} b (Some other) None ≡ Some push
        → Some other ≡ Some push
    at true is = is
    at false is = absurd (cc)

commits : (lease : ℕ) (hash : Hash) (place : ReplicaState) (answer : Hash) (then_ : ReplicaState)
    → Commits lease hash place answer then_ → StaysWhole place then_
commits lease hash place answer then_ done whole =
    let passed = fence_passed lease place (no_first _ _ done.accepted) in
    let push : IsWholePush place done.push =
    subst (λ (r : Option ReadyPush). IfSome r (λ push. IsWholePush place push))
    (is_ready lease place.ready done.push done.ready) whole.ready in
    subst IsWholeReplica (sym done.is)
    (settled (lease + 1) (record place {
      refs = after place.refs done.push.updates;
      objects = with_objects place.objects done.push.objects;
      last = Some lease;
    })
    (leases place whole) passed
    (IsStore-with_objects place.objects 0 done.push.objects whole.store push.comes)
    (IsRefList-fits place.refs done.push.updates whole.refs
    (name_stands done.push.updates push.updates) push.fits) push.closed)

aborts : (lease : ℕ) (place : ReplicaState) (answer : Unit {0}) (then_ : ReplicaState)
    → Aborts lease place answer then_ → StaysWhole place then_
aborts lease place answer then_ done whole =
    let passed = fence_passed lease place (no_first _ _ done.accepted) in
    subst IsWholeReplica (sym done.is)
    (settled (lease + 1) (record place { ready = None }) tt passed
    whole.store whole.refs whole.closed)

raises : (lease : ℕ) (place : ReplicaState) → StaysWhole place (raised lease place)
raises lease place whole = record {
  store = whole.store;
  refs = whole.refs;
  closed = whole.closed;
  ready = kept lease place place.ready whole.ready;
}

applies : (lease : ℕ) (given : Snapshot) (place : ReplicaState) (answer : Unit {0}) (then_ : ReplicaState)
    → IsRefList given.refs → Applies lease given place answer then_ → StaysWhole place then_
applies lease given place answer then_ lawful done whole =
    let passed = fence_passed lease place (no_first _ _ done.accepted) in
    let comes = objects_come place.objects given.objects
    (no_second (fenced lease place) _ done.accepted) in
    let more : Objects = object_at (with_objects place.objects given.objects) in
    subst IsWholeReplica (sym done.is)
    (settled (lease + 1) (record place {
      held = true;
      refs = given.refs;
      objects = with_objects place.objects given.objects;
    })
    (leases place whole) passed
    (IsStore-with_objects place.objects 0 given.objects whole.store comes) lawful
    (closed_more (with_coming place given.objects) more
    (has_coming place given.objects comes) (values_of given.refs) done.closed))

removes : (lease : ℕ) (place : ReplicaState) (answer : Unit {0}) (then_ : ReplicaState)
    → Removes lease place answer then_ → StaysWhole place then_
removes lease place answer then_ done whole =
    let passed = fence_passed lease place done.accepted in
    subst IsWholeReplica (sym done.is)
    (settled (lease + 1) (record place { held = false; refs = []; objects = [] })
    (leases place whole) passed no_store no_refs (no_tips (object_at [])))

pub all_whole : Keeps StaysWhole
all_whole = record {
  stays = λ place whole. whole;
  creates = creates;
  prepares = prepares;
  commits = commits;
  aborts = aborts;
  raises = raises;
  applies = applies;
  removes = removes;
  ends = λ place whole. record {
    store = whole.store;
    refs = whole.refs;
    closed = whole.closed;
    ready = tt;
  };
}

pub step_is_whole : (old new : NodeState) → IsStep old new → IsWhole old → IsWhole new
step_is_whole old new step whole path = step_keeps StaysWhole all_whole old new step path (whole path)

pub run_is_whole : (old new : NodeState) → IsRun old new → IsWhole old → IsWhole new
run_is_whole old new run whole path =
    run_keeps StaysWhole all_whole (λ a b c first then_ is. then_ (first is)) old new run path
    (whole path)
