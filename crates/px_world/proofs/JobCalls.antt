-- What is delivered to a node for a job, as an event of the cluster.
use Rattle.std.proofs.Common.{◌≡◌, ◌∙◌, ℕ, List, Bool, true, false, Option, None, Some, Result, Ok, Err, ap, is_some, length, refl, subst, sym}
use Rattle.std.specs.declared.alloc.AllocError.{AllocError}
use Rattle.node_calls.specs.Calls.{ApplyRefuses, Applies, RemoveRefuses, Removes}
use Rattle.node_calls.specs.Reads.{IsSnapshot}
use Rattle.node_calls.specs.declared.snapshot.Snapshot.{Snapshot}
use Rattle.issued.specs.Draws.{ledger_of}
use Rattle.issued.specs.Entries.{Entries}
use Rattle.issued.specs.Issued.{KeepsAnswer, KeepsSnapshot, worked_of}
use Rattle.nodes.specs.Calls.{Delivered, Reads}
use Rattle.nodes.specs.State.{KeptNodes, state_of}
use Rattle.nodes.specs.declared.fault.NodeFault.{NodeFault}
use Rattle.nodes.proofs.ClusterCalls.{delivers_refusal, takes_snapshot}
use Rattle.px_ops.specs.declared.refusal.Refusal.TheVariants.{Node}
use Rattle.px_cluster.specs.Cluster.{Cluster}
use Rattle.px_cluster.specs.Core.{Core}
use Rattle.px_cluster.specs.Deliveries.{Delivers, TakesSnapshot, with_answer}
use Rattle.px_cluster.specs.Effects.{Effect, Location, issued_for, snapshot_of, source_at, source_of}
use Rattle.px_cluster.specs.Events.{Answer as Told, Apply, Delivered as Did, Remove, SnapshotIs, TakeSnapshot, refused}
use Rattle.px_cluster.specs.Ledger.{Purpose, answered, is_delete_of, snapshot_in, source_in, with_snapshot}
use Rattle.px_cluster.specs.Step.{ApplyRefusesAs, AppliesAs, Step, tells_done}
use Rattle.px_core.specs.Readers.{path_on}
use Rattle.script_rules.specs.declared.answer.Answer.{Answer}
use Rattle.px_world.specs.Answers.{IsRefusal}
use Rattle.px_world.specs.Tries.{Happens}
use Rattle.px_world.specs.World.{world}
use Rattle.px_world.proofs.Delivering.{effect_at, is_out, kept_done, located, not_done}

-- of a job, under a lease that was drawn for it
worked_out : (cluster : Cluster) (test : Purpose → Bool) (job repo target lease : ℕ)
    (path : List ℕ) → path_on cluster.core repo target ≡ Some path
    → cluster.worked job ≡ Some (record { repo = repo; number = target })
    → test (cluster.ledger repo target lease) ≡ true
    → issued_for cluster test lease (cluster.worked job)
    ≡ Some (effect_at repo path target lease)
worked_out cluster test job repo target lease path there worked passes =
    ap (issued_for cluster test lease) worked
    ∙ is_out cluster test repo target lease path there passes

-- a path that is there
pub some_path : (path : Option (List ℕ)) → is_some path ≡ true
    → (it : List ℕ) × (path ≡ Some it)
some_path None is = absurd (let z : false ≡ true = is in cc)
some_path (Some it) is = (it, refl)

module _ (core : Core) (old new : KeptNodes) (was now : Entries) (job repo target lease : ℕ)
    (path : List ℕ) (there : path_on core repo target ≡ Some path)
    (worked : worked_of was.works job ≡ Some (record { repo = repo; number = target })) where
  abbrev before : Cluster
  before = world core (state_of old) was

  abbrev after : Entries → Cluster
  after entries = world core (state_of new) entries

  abbrev effect : Effect
  effect = effect_at repo path target lease

  -- ---- a removal

  module _ (issued : is_delete_of job (ledger_of was.draws repo target lease) ≡ true) where
    abbrev Removed : Result (Unit {0}) NodeFault → Type 0
    Removed result = Delivered (RemoveRefuses lease) (Removes lease) target path (state_of old)
        result (state_of new)

    remove_found : (answer : Told) (then_ : Cluster) → Delivers (RemoveRefuses lease)
        (Removes lease) tells_done answered before (Some effect) answer then_
        → Step before (Remove job lease) answer then_
    remove_found answer then_ = subst (λ found. Delivers (RemoveRefuses lease) (Removes lease)
        tells_done answered before found answer then_)
        (sym (worked_out before (is_delete_of job) job repo target lease path there worked issued))

    pub remove_done : KeepsAnswer repo target lease was now → Removed (Ok tt)
        → Step before (Remove job lease) Did (after now)
    remove_done keeps done = remove_found Did (after now)
        (kept_done core (state_of old) (state_of new) was now (RemoveRefuses lease)
        (Removes lease) tells_done effect tt done keeps)

  -- ---- an apply of the snapshot that is kept

  module _ (snapshot : Snapshot)
      (kept : snapshot_in job (ledger_of was.draws repo target lease) ≡ Some snapshot) where
    abbrev Applied : Result (Unit {0}) NodeFault → Type 0
    Applied result = Delivered (ApplyRefuses lease snapshot) (Applies lease snapshot) target path
        (state_of old) result (state_of new)

    apply_found : (answer : Told) (then_ : Cluster) → Delivers (ApplyRefuses lease snapshot)
        (Applies lease snapshot) tells_done answered before (Some effect) answer then_
        → Step before (Apply job lease) answer then_
    apply_found answer then_ delivers =
        let out = worked_out before (λ purpose. is_some (snapshot_in job purpose)) job repo target
        lease path there worked (ap is_some kept) in
        subst (λ found. Delivers (ApplyRefusesAs lease (snapshot_of before job found))
        (AppliesAs lease (snapshot_of before job found)) tells_done answered before found answer
        then_) (sym out)
        (subst (λ s. Delivers (ApplyRefusesAs lease s) (AppliesAs lease s) tells_done answered
        before (Some effect) answer then_) (sym kept) delivers)

    pub apply_done : KeepsAnswer repo target lease was now → Applied (Ok tt)
        → Step before (Apply job lease) Did (after now)
    apply_done keeps done = apply_found Did (after now)
        (kept_done core (state_of old) (state_of new) was now (ApplyRefuses lease snapshot)
        (Applies lease snapshot) tells_done effect tt done keeps)

    pub apply_not_done : (fault : NodeFault) (result : Result Answer AllocError)
        → IsRefusal fault result → Applied (Err fault)
        → Happens (record { core = core; nodes = old; issued = was }) (Apply job lease) result
        (record { core = core; nodes = new; issued = was })
    apply_not_done = not_done core old new was (Apply job lease) (λ fault. Applied (Err fault))
        (λ why refusal. apply_found (refused (Node why)) (after was)
        (delivers_refusal before (state_of old) (state_of new) (ApplyRefuses lease snapshot)
        (Applies lease snapshot) tells_done answered effect why refusal))
        (λ same. same)

  -- ---- a snapshot of the source

  module _ (source : ℕ)
      (issued : source_in job (ledger_of was.draws repo target lease) ≡ Some source) where
    module _ (from : List ℕ) (at : path_on core repo source ≡ Some from) where
      abbrev ReadSo : Result Snapshot NodeFault → Type 0
      ReadSo result = Reads IsSnapshot source from (state_of old) result (state_of new)

      abbrev location : Location
      location = record { repo = repo; path = from; storage = source }

      snapshot_found : (answer : Told) (then_ : Cluster)
          → TakesSnapshot before (Some location) (Some effect) answer then_
          → Step before (TakeSnapshot job lease) answer then_
      snapshot_found answer then_ takes =
          let out = worked_out before (λ purpose. is_some (source_in job purpose)) job repo target
          lease path there worked (ap is_some issued) in
          let is : source_of before job (Some effect) ≡ Some location =
          ap (source_at before repo) issued ∙ located repo source from core at in
          subst (λ found. TakesSnapshot before (source_of before job found) found answer then_)
          (sym out)
          (subst (λ read. TakesSnapshot before read (Some effect) answer then_) (sym is) takes)

      pub snapshot_done : (snapshot : Snapshot) (refs objects : ℕ)
          → KeepsSnapshot repo target lease snapshot was now → refs ≡ length snapshot.refs
          → objects ≡ length snapshot.objects → ReadSo (Ok snapshot)
          → Step before (TakeSnapshot job lease) (SnapshotIs refs objects) (after now)
      snapshot_done snapshot refs objects keeps of_refs of_objects read =
          let kept : after now ≡ with_answer (after was) effect (with_snapshot snapshot) =
          ap (λ (c : Cluster). record c { core = core; node = (state_of new).node })
          (keeps effect refl refl refl) in
          let taken = snapshot_found (SnapshotIs (length snapshot.refs) (length snapshot.objects))
          (with_answer (after was) effect (with_snapshot snapshot))
          (takes_snapshot before (state_of old) (state_of new) location effect snapshot read) in
          rw (of_refs, of_objects)
          (subst (λ c. Step before (TakeSnapshot job lease)
          (SnapshotIs (length snapshot.refs) (length snapshot.objects)) c) (sym kept) taken)
