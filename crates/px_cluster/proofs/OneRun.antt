-- In each state an event has one answer and leads to one state; so a list of events has one run.
use Rattle.std.proofs.Common.{◌≡◌, [], ◌∷◌, length, true, false, Option, None, Some, refl, sym, ap, ◌∙◌, subst, inl, inr}
use Rattle.px_ops.specs.declared.node_refusal.NodeRefusal.{NodeRefusal}
use Rattle.px_ops.specs.declared.op.Op.{Op}
use Rattle.px_ops.specs.declared.refusal.Refusal.TheVariants.{Node}
use Rattle.node_calls.specs.ReplicaState.{ReplicaState}
use Rattle.node_calls.specs.declared.snapshot.Snapshot.{Snapshot}
use Rattle.px_cluster.specs.Cluster.{Cluster}
use Rattle.px_cluster.specs.Deliveries.{Delivers, Fences, IsNotOut, ReadsRefs, TakesSnapshot, with_answer, with_state_at}
use Rattle.px_cluster.specs.Effects.{Effect, Location, effect_of, hash_of, snapshot_of, source_of, state_at, location_of}
use Rattle.px_cluster.specs.Events.{Answer, Event, SnapshotIs, Voted, refused}
use Rattle.px_cluster.specs.Events as event
use Rattle.px_cluster.specs.Ledger.{Purpose, answered, with_snapshot}
use Rattle.px_cluster.specs.OneRun.{RunIsOne, StepIsOne}
use Rattle.px_cluster.specs.Step.{IsAsked, Runs, Step, keeps_nothing, lease_of, settling, tells_done}
use Rattle.px_cluster.proofs.OneCall.{IsOneCall, one_abort, one_apply, one_commit, one_create, one_prepare, one_remove, one_snapshot}

-- two that are so are one answer and one state
abbrev IsOne : (Answer → Cluster → Type 0) → Type 0
IsOne Leads =
    (a b : Answer) (x y : Cluster) → Leads a x → Leads b y → (a ≡ b) × (x ≡ y)

-- ---- deliveries

one_not_out : (old : Cluster) → IsOne (IsNotOut old)
one_not_out old a b x y d e = (d.0 ∙ sym e.0, d.1 ∙ sym e.1)

module _ {A : Type 0} (refuses : ReplicaState → NodeRefusal → Type 0)
    (does : ReplicaState → A → ReplicaState → Type 0) (tells : A → Answer)
    (keeps : Purpose → Purpose) (call : IsOneCall refuses does) (old : Cluster) where
  -- where the node did it, the cluster is this
  abbrev left : Effect → ReplicaState → Cluster
  left effect state = with_answer (with_state_at old effect.at state) effect keeps

  one_delivery : (effect : Option Effect) → IsOne (Delivers refuses does tells keeps old effect)
  one_delivery None a b x y d e = one_not_out old a b x y d e
  one_delivery (Some effect) a b x y (inl d) (inl e) =
      let was = state_at old effect.at in
      let one = call.one_refusal was d.why e.why d.refuses_ e.refuses_ in
      (d.answer_ ∙ ap (λ why. refused (Node why)) one ∙ sym e.answer_, d.same ∙ sym e.same)
  one_delivery (Some effect) a b x y (inl d) (inr e) = absurd (call.not_both
      (state_at old effect.at) d.why e.result e.state d.refuses_ e.does_)
  one_delivery (Some effect) a b x y (inr d) (inl e) = absurd (call.not_both
      (state_at old effect.at) e.why d.result d.state e.refuses_ d.does_)
  one_delivery (Some effect) a b x y (inr d) (inr e) =
      let was = state_at old effect.at in
      let one = call.one_effect was d.result e.result d.state e.state d.does_ e.does_ in (
        d.answer_ ∙ ap tells one.0 ∙ sym e.answer_,
        d.changes ∙ ap (left effect) one.1 ∙ sym e.changes,
      )

one_fence : (old : Cluster) (effect : Option Effect) → IsOne (Fences old effect)
one_fence old None a b x y d e = one_not_out old a b x y d e
one_fence old (Some effect) a b x y d e = (d.0 ∙ sym e.0, d.1 ∙ sym e.1)

-- ---- readings

one_reading : (old : Cluster) (location : Option Location) → IsOne (ReadsRefs old location)
one_reading old None a b x y d e = one_not_out old a b x y d e
one_reading old (Some location) a b x y d e = (d.0 ∙ sym e.0, d.1 ∙ sym e.1)

-- what is told of a snapshot
abbrev told_of : Snapshot → Answer
told_of snapshot = SnapshotIs (length snapshot.refs) (length snapshot.objects)

-- a source is held or not, and one snapshot of it is taken
one_taking : (old : Cluster) (source : Option Location) (effect : Option Effect)
    → IsOne (TakesSnapshot old source effect)
one_taking old source None a b x y d e = one_not_out old a b x y d e
one_taking old None (Some effect) a b x y d e = one_not_out old a b x y d e
one_taking old (Some source) (Some effect) a b x y (inl d) (inl e) =
    (d.answer_ ∙ sym e.answer_, d.same ∙ sym e.same)
one_taking old (Some source) (Some effect) a b x y (inl d) (inr e) =
    absurd (let both : true ≡ false = sym e.held ∙ d.missing in cc)
one_taking old (Some source) (Some effect) a b x y (inr d) (inl e) =
    absurd (let both : true ≡ false = sym d.held ∙ e.missing in cc)
one_taking old (Some source) (Some effect) a b x y (inr d) (inr e) =
    let one = one_snapshot (state_at old source) d.snapshot e.snapshot d.is e.is in
    let keeps : Snapshot → Cluster = λ s. with_answer old effect (with_snapshot s) in
    (d.answer_ ∙ ap told_of one ∙ sym e.answer_, d.kept ∙ ap keeps one ∙ sym e.kept)

-- ---- events

one_asking : (old : Cluster) (asked : Op) → IsOne (IsAsked old asked)
one_asking old asked a b x y d e = (d.replied ∙ sym e.replied, d.leads ∙ sym e.leads)

one_step : (old : Cluster) (happened : Event) → IsOne (Step old happened)
one_step old (event.Asks asked) = one_asking old asked
one_step old (event.Settled repo storage lease) = one_asking old (settling old repo storage lease)
one_step old (event.Make storage repo lease) =
    one_delivery _ _ tells_done answered (one_create lease) old
    (effect_of old (event.Make storage repo lease))
one_step old (event.Prepare tx storage push) =
    let effect = effect_of old (event.Prepare tx storage push) in
    one_delivery _ _ Voted keeps_nothing (one_prepare (lease_of effect) push) old effect
one_step old (event.Commit tx storage) =
    let effect = effect_of old (event.Commit tx storage) in
    one_delivery _ _ Voted answered (one_commit (lease_of effect) (hash_of old effect)) old effect
one_step old (event.Abort tx storage) =
    let effect = effect_of old (event.Abort tx storage) in
    one_delivery _ _ tells_done keeps_nothing (one_abort (lease_of effect)) old effect
one_step old (event.Refs storage repo) = one_reading old (location_of old repo storage)
one_step old (event.TakeSnapshot job lease) =
    let effect = effect_of old (event.TakeSnapshot job lease) in
    one_taking old (source_of old job effect) effect
one_step old (event.Apply job lease) =
    let effect = effect_of old (event.Apply job lease) in
    one_delivery _ _ tells_done answered (one_apply lease (snapshot_of old job effect)) old effect
one_step old (event.Remove job lease) =
    one_delivery _ _ tells_done answered (one_remove lease) old
    (effect_of old (event.Remove job lease))
one_step old (event.Fence storage repo lease) =
    one_fence old (effect_of old (event.Fence storage repo lease))
one_step old event.Restart =
    λ a b x y d e. (d.replied ∙ sym e.replied, d.leads ∙ sym e.leads)

pub step_is_one : StepIsOne
step_is_one old x y happened a b d e = one_step old happened a b x y d e

-- ---- runs

pub run_is_one : RunIsOne
run_is_one old x y [] [] [] d e = (refl, d ∙ sym e)
run_is_one old x y [] [] (b ∷ others) d e = absurd e
run_is_one old x y [] (a ∷ answers) others d e = absurd d
run_is_one old x y (happened ∷ events) [] others d e = absurd d
run_is_one old x y (happened ∷ events) (a ∷ answers) [] d e = absurd e
run_is_one old x y (happened ∷ events) (a ∷ answers) (b ∷ others) d e =
    let one = step_is_one old d.0 e.0 happened a b d.1 e.1 in
    let on = subst (λ (then_ : Cluster). Runs then_ events answers x) one.1 d.2 in
    let rest = run_is_one e.0 x y events answers others on e.2 in
    (λ i. one.0 i ∷ rest.0 i, rest.1)
