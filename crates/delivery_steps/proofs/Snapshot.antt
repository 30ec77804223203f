-- A snapshot is read at the source of an update, and kept with the level that the source had.
use Rattle.std.proofs.Common.{◌≡◌, ℕ, Bool, true, Option, None, Some, if◌then◌else◌, is_some, refl, sym, ◌∙◌, ap, subst, inl, inr}
use Rattle.node_calls.specs.declared.snapshot.Snapshot.{Snapshot}
use Rattle.px_cluster.specs.Book.{Repository, has_replica_on}
use Rattle.px_cluster.specs.Cluster.{Cluster}
use Rattle.px_cluster.specs.Deliveries.{TakesSnapshot, with_answer}
use Rattle.px_cluster.specs.Effects.{Effect, Location, effect_of, location_in, purpose_at, source_at, source_of, state_at}
use Rattle.px_cluster.specs.Events.{Answer}
use Rattle.px_cluster.specs.Events as event
use Rattle.px_cluster.specs.Ledger.{Ledger, source_in, with_purpose, with_snapshot}
use Rattle.px_cluster.specs.Ledger as ledger
use Rattle.push_events.proofs.Values.{none_some}
use Rattle.replica_invariant.specs.Contents.{Content}
use Rattle.replica_invariant.specs.Jobs.{CanRead}
use Rattle.replica_invariant.specs.Purposes.{Purpose, Updating}
use Rattle.replica_invariant.specs.Pushes.{issued}
use Rattle.replica_invariant.specs.State.{AtNode, Replica, State, with_replica}
use Rattle.safe_states.specs.Happens.{Reads}
use Rattle.cluster_form.proofs.Lists.{bool, some_is}
use Rattle.cluster_history.specs.Goes.{GoesOn, IsSound}
use Rattle.cluster_history.specs.History.{Whole}
use Rattle.cluster_history.specs.Remembered.{after_effect, by_reading, is_refused, level_or_0}
use Rattle.cluster_history.specs.Seen.{node_if, seen_node, seen_purpose, seen_snapshot}
use Rattle.cluster_history.proofs.Effects.{IsIssued, nothing_goes, work_is}
use Rattle.cluster_history.proofs.Frame.{once_to}
use Rattle.delivery_steps.specs.Deliveries.{SnapshotGoesOn}
use Rattle.delivery_steps.proofs.OneDelivery.{Target, drawn, invariant, read_level, replica, state_before, target_of}
use Rattle.delivery_steps.proofs.Purposes.{update_is}
use Rattle.delivery_steps.proofs.SnapshotKept.{kept_goes, new, now}

module _ (whole : Whole) (sound : IsSound whole) (to : Target whole)
    (job source generation : ℕ) (older : Option Snapshot) (answered : Bool)
    (drawn_is : drawn whole sound to ≡ ledger.Updating job source generation older answered)
    (there : has_replica_on to.book source ≡ true) (snapshot : Snapshot)
    (held : (whole.cluster.node source to.book.path).held ≡ true)
    (refs : snapshot.refs ≡ (whole.cluster.node source to.book.path).refs) where
  abbrev at_source : Replica
  at_source = (state_before whole sound to).replica source

  -- the source is seen as it is
  same : at_source.node ≡ seen_node (whole.cluster.node source to.book.path)
  same = ap (λ has. node_if has (whole.cluster.node source to.book.path)) there

  seen_held : at_source.node.held ≡ true
  seen_held = ap (λ (n : AtNode). n.held) same ∙ held

  -- and so is what the lease was drawn for
  purpose_is : (replica whole sound to).purpose to.lease
      ≡ Updating source generation (seen_snapshot (read_level whole sound to) older) answered
  purpose_is = ap (seen_purpose (read_level whole sound to)) drawn_is

  abbrev level : ℕ
  level = level_or_0 (whole.history.level to.repo source)

  -- a source has a floor, so that it has a level where it is held
  has_level : (known : Option ℕ) → at_source.level ≡ known → known ≡ Some (level_or_0 known)
  has_level (Some n) is = refl
  has_level None is =
      let clause = (invariant whole sound to).source to.storage to.lease source generation
      (seen_snapshot (read_level whole sound to) older) answered purpose_is in
      let none = ((invariant whole sound to).replicas source).node.early seen_held is in
      none_some (None ≡ Some 0) (sym none ∙ clause.floor.1)

  -- so it may be read
  can : CanRead (state_before whole sound to) to.storage to.lease source generation level
      (seen_snapshot (read_level whole sound to) older) answered
  can = record {
    purpose = purpose_is;
    held = seen_held;
    level_ = has_level at_source.level refl;
  }

  abbrev kept : ledger.Purpose
  kept = with_snapshot snapshot (drawn whole sound to)

  -- what is kept has what the source holds
  kept_is : seen_purpose level kept
      ≡ Updating source generation (Some (at_source.node.refs, level)) answered
  kept_is = ap (λ p. seen_purpose level (with_snapshot snapshot p)) drawn_is
      ∙ ap (λ (content : Content). Updating source generation (Some (content, level)) answered)
      (refs ∙ ap (λ (n : AtNode). n.refs) (sym same))

  abbrev read : State
  read = with_replica (state_before whole sound to) to.storage
      (issued (replica whole sound to) to.lease
      (Updating source generation (Some (at_source.node.refs, level)) answered))

  reads : GoesOn whole (new whole sound to kept level)
  reads = kept_goes whole sound to kept level
      (once_to (state_before whole sound to) read
      (with_replica (state_before whole sound to) to.storage (now whole sound to kept level))
      (ap (λ (p : Purpose). with_replica (state_before whole sound to) to.storage
      (issued (replica whole sound to) to.lease p)) kept_is)
      (Reads (state_before whole sound to) to.storage to.lease source generation level
      (seen_snapshot (read_level whole sound to) older) answered can))

-- ---- by the effect

-- the source is a replica of the same repository
source_is : (c : Cluster) (repo storage : ℕ) (book : Repository) (at : Location)
    → location_in (Some book) repo storage ≡ Some at → (has_replica_on book storage ≡ true)
    × (at ≡ record { repo = repo; path = book.path; storage = storage })
source_is c repo storage book at is = elim (bool (has_replica_on book storage)) [
  | inl holds ↦ (
      let here : Location = record { repo = repo; path = book.path; storage = storage } in
      let found : Some here ≡ Some at = rw holds at is in
      (holds, sym (some_is here at found)))
  | inr fails ↦ absurd (let z : None ≡ Some at = rw fails at is in cc)
]

module _ (job lease : ℕ) (whole : Whole) (sound : IsSound whole) where
  abbrev happened : event.Event
  happened = event.TakeSnapshot job lease

  abbrev Leads : Option Effect → Answer → Cluster → Type 0
  Leads effect answer then_ = GoesOn whole (record {
    cluster = then_;
    history = if is_refused answer then whole.history else after_effect whole happened effect;
  })

  -- a refusal leaves everything
  refused_so : (effect : Option Effect) (answer : Answer) (then_ : Cluster) → then_ ≡ whole.cluster
      → is_refused answer ≡ true → Leads effect answer then_
  refused_so effect answer then_ stays is = subst (λ (w : Whole). GoesOn whole w) (λ i. record {
    cluster = sym stays i;
    history = if sym is i then whole.history else after_effect whole happened effect;
  }) (nothing_goes whole)

  -- the effect, whose source is at this location
  taken : (effect : Effect) (at : Location) (snapshot : Snapshot)
      → IsIssued whole.cluster (λ p. is_some (source_in job p)) effect
      → source_of whole.cluster job (Some effect) ≡ Some at
      → (state_at whole.cluster at).held ≡ true
      → snapshot.refs ≡ (state_at whole.cluster at).refs
      → GoesOn whole (record {
        cluster = with_answer whole.cluster effect (with_snapshot snapshot);
        history = by_reading whole.history effect (Some at);
      })
  taken effect at snapshot issue leads_from there content =
      let drawn_is = update_is job (purpose_at whole.cluster effect) issue.passes in
      let located : location_in (Some issue.replica.book) effect.at.repo drawn_is.source ≡ Some at =
      sym (ap (λ book. location_in book effect.at.repo drawn_is.source) issue.replica.known)
      ∙ sym (ap (source_at whole.cluster effect.at.repo) drawn_is.from) ∙ leads_from in
      let is =
      source_is whole.cluster effect.at.repo drawn_is.source issue.replica.book at located in
      subst (λ (x : Location). GoesOn whole (record {
        cluster = with_answer whole.cluster effect (with_snapshot snapshot);
        history = by_reading whole.history effect (Some x);
      })) (sym is.1)
      (reads whole sound (target_of whole effect issue.replica) drawn_is.job drawn_is.source
      drawn_is.generation drawn_is.kept drawn_is.answered drawn_is.is is.0 snapshot
      (subst (λ (x : Location). (state_at whole.cluster x).held ≡ true) is.1 there)
      (subst (λ (x : Location). snapshot.refs ≡ (state_at whole.cluster x).refs) is.1 content))

  -- it was not issued, or its source does not hold the repository, or the snapshot is taken
  by_source : (source : Option Location) (effect : Option Effect) (answer : Answer)
      (then_ : Cluster) → effect_of whole.cluster happened ≡ effect
      → source_of whole.cluster job effect ≡ source
      → TakesSnapshot whole.cluster source effect answer then_ → Leads effect answer then_
  by_source source None answer then_ is leads_from takes =
      refused_so None answer then_ takes.1 (ap is_refused takes.0)
  by_source None (Some effect) answer then_ is leads_from takes =
      refused_so (Some effect) answer then_ takes.1 (ap is_refused takes.0)
  by_source (Some at) (Some effect) answer then_ is leads_from (inl missing) =
      refused_so (Some effect) answer then_ missing.same (ap is_refused missing.answer_)
  by_source (Some at) (Some effect) answer then_ is leads_from (inr takes) =
      subst (λ (w : Whole). GoesOn whole w) (λ i. record {
        cluster = sym takes.kept i;
        history = if sym (ap is_refused takes.answer_) i then whole.history
            else by_reading whole.history effect (sym leads_from i);
      }) (taken effect at takes.snapshot
      (work_is whole.cluster (λ p. is_some (source_in job p)) job lease effect is).at.issued
      leads_from takes.held takes.is.refs)

pub snapshot_goes : SnapshotGoesOn
snapshot_goes job lease whole answer then_ sound one step =
    let effect = effect_of whole.cluster (event.TakeSnapshot job lease) in
    by_source job lease whole sound (source_of whole.cluster job effect) effect answer then_
    refl refl step
