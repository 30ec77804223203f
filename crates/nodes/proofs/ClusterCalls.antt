-- What a call at the node of a storage is to a cluster that has these nodes.
use Rattle.std.proofs.Common.{◌≡◌, ◌==◌, ◌&&◌, ℕ, Bool, true, false, cond, length, Option, Some, Ok, Err, refl, sym, ap, ◌∙◌, inl, inr}
use Rattle.std.proofs.Math.Path.{fun_ext}
use Rattle.std.proofs.lemmas.Bool.{cond-false, cond-true, eqb-true}
use Rattle.px_ops.specs.declared.node_refusal.NodeRefusal.{NodeRefusal}
use Rattle.px_ops.specs.declared.node_refusal.NodeRefusal.TheVariants.{NoRepo}
use Rattle.px_ops.specs.declared.refusal.Refusal.TheVariants.{Node}
use Rattle.px_base.specs.RefList.{References}
use Rattle.node_calls.specs.Reads.{HasRefs, IsSnapshot}
use Rattle.node_calls.specs.ReplicaState.{ReplicaState}
use Rattle.node_calls.specs.ReplicaState as node
use Rattle.node_calls.specs.declared.snapshot.Snapshot.{Snapshot}
use Rattle.px_cluster.specs.Cluster.{Cluster, with_ledger}
use Rattle.px_cluster.specs.Deliveries.{Delivers, Fences, ReadsRefs, TakesSnapshot, fence_kept, fence_told, refs_told, with_answer}
use Rattle.px_cluster.specs.Effects.{Effect, Location, purpose_at}
use Rattle.px_cluster.specs.Events.{Answer, LastIs, RefsAre, SnapshotIs, refused}
use Rattle.px_cluster.specs.Ledger.{Purpose, with_last, with_snapshot}
use Rattle.px_cluster.specs.Step.{keeps_nothing}
use Rattle.nodes.specs.Calls.{Delivered, Fenced, Reads, with_replica}
use Rattle.nodes.specs.State.{NodesState}
use Rattle.nodes.specs.declared.fault.NodeFault.TheVariants.{Refused}

-- ---- what is told and kept of a replica, whether it is held or not

refs_of_held : (state : ReplicaState) → state.held ≡ true → refs_told state ≡ RefsAre state.refs
refs_of_held state held = cond-true state.held (RefsAre state.refs) (refused (Node NoRepo)) held

refs_of_missing : (state : ReplicaState) → state.held ≡ false
    → refs_told state ≡ refused (Node NoRepo)
refs_of_missing state missing =
    cond-false state.held (RefsAre state.refs) (refused (Node NoRepo)) missing

last_of_held : (state : ReplicaState) → state.held ≡ true → fence_told state ≡ LastIs state.last
last_of_held state held = cond-true state.held (LastIs state.last) (refused (Node NoRepo)) held

last_of_missing : (state : ReplicaState) → state.held ≡ false
    → fence_told state ≡ refused (Node NoRepo)
last_of_missing state missing =
    cond-false state.held (LastIs state.last) (refused (Node NoRepo)) missing

kept_of_held : (state : ReplicaState) → state.held ≡ true → fence_kept state ≡ with_last state.last
kept_of_held state held =
    fun_ext (λ purpose. cond-true state.held (with_last state.last purpose) purpose held)

kept_of_missing : (state : ReplicaState) → state.held ≡ false → fence_kept state ≡ keeps_nothing
kept_of_missing state missing =
    fun_ext (λ purpose. cond-false state.held (with_last state.last purpose) purpose missing)

-- ---- calls, from the nodes as they were to those that the call left

-- the cluster with these nodes
abbrev pub with_nodes : Cluster → NodesState → Cluster
with_nodes cluster nodes = record cluster { node = nodes.node }

module _ (cluster : Cluster) (old new : NodesState) where
  -- ---- a call that changes a replica

  module _ {A : Type 0} (refuses : ReplicaState → NodeRefusal → Type 0)
      (does : ReplicaState → A → ReplicaState → Type 0) (tells : A → Answer)
      (keeps : Purpose → Purpose) (effect : Effect) where
    -- it was done, and its answer is kept
    pub delivers_done : (answer : A)
        → Delivered refuses does effect.at.storage effect.at.path old (Ok answer) new
        → Delivers refuses does tells keeps (with_nodes cluster old) (Some effect) (tells answer)
        (with_answer (with_nodes cluster new) effect keeps)
    delivers_done answer done = inr (record {
      result = answer;
      state = done.state;
      does_ = done.does_;
      answer_ = refl;
      changes = ap (λ (nodes : NodesState). with_answer (with_nodes cluster nodes) effect keeps)
          done.changes;
    })

    -- it was refused
    pub delivers_refusal : (why : NodeRefusal)
        → Delivered refuses does effect.at.storage effect.at.path old (Err (Refused why)) new
        → Delivers refuses does tells keeps (with_nodes cluster old) (Some effect)
        (refused (Node why)) (with_nodes cluster new)
    delivers_refusal why refusal = inl (record {
      why = why;
      refuses_ = refusal.0;
      answer_ = refl;
      same = ap (with_nodes cluster) refusal.1;
    })

  -- ---- the reading of references

  module _ (location : Location) where
    -- they are answered
    pub reads_refs : (refs : References)
        → Reads HasRefs location.storage location.path old (Ok refs) new
        → ReadsRefs (with_nodes cluster old) (Some location) (RefsAre refs)
        (with_nodes cluster new)
    reads_refs refs read = (
      ap RefsAre read.1 ∙ sym (refs_of_held (old.node location.storage location.path) read.0),
      ap (with_nodes cluster) read.2,
    )

    -- they are refused
    pub reads_no_refs : (why : NodeRefusal)
        → Reads HasRefs location.storage location.path old (Err (Refused why)) new
        → ReadsRefs (with_nodes cluster old) (Some location) (refused (Node why))
        (with_nodes cluster new)
    reads_no_refs why read = (
      ap (λ (w : NodeRefusal). refused (Node w)) read.1
          ∙ sym (refs_of_missing (old.node location.storage location.path) read.0),
      ap (with_nodes cluster) read.2,
    )

  -- ---- a fence

  module _ (effect : Effect) where
    abbrev was : ReplicaState
    was = old.node effect.at.storage effect.at.path

    -- the nodes and the ledger, where this is kept of the answer
    abbrev with_kept : (Purpose → Purpose) → NodesState → Cluster
    with_kept keeps nodes = with_answer (with_nodes cluster nodes) effect keeps

    abbrev fenced_nodes : NodesState
    fenced_nodes =
        with_replica old effect.at.storage effect.at.path (node.raised effect.lease was)

    -- it is answered, and its answer is kept
    pub fences_done : (last : Option ℕ)
        → Fenced effect.lease effect.at.storage effect.at.path old (Ok last) new
        → Fences (with_nodes cluster old) (Some effect) (LastIs last)
        (with_answer (with_nodes cluster new) effect (with_last last))
    fences_done last done =
        let kept : with_last last ≡ fence_kept was =
        ap with_last done.1 ∙ sym (kept_of_held was done.0) in (
          ap LastIs done.1 ∙ sym (last_of_held was done.0),
          ap (with_kept (with_last last)) done.2
              ∙ ap (λ (keeps : Purpose → Purpose). with_kept keeps fenced_nodes) kept,
        )

    -- it is refused, and raised all the same
    pub fences_refusal : (why : NodeRefusal)
        → Fenced effect.lease effect.at.storage effect.at.path old (Err (Refused why)) new
        → Fences (with_nodes cluster old) (Some effect) (refused (Node why))
        (with_answer (with_nodes cluster new) effect keeps_nothing)
    fences_refusal why refusal = (
      ap (λ (w : NodeRefusal). refused (Node w)) refusal.1
          ∙ sym (last_of_missing was refusal.0),
      ap (with_kept keeps_nothing) refusal.2
          ∙ ap (λ (keeps : Purpose → Purpose). with_kept keeps fenced_nodes)
          (sym (kept_of_missing was refusal.0)),
    )

  -- ---- a snapshot of a source, for an effect

  module _ (source : Location) (effect : Effect) where
    -- it is taken, and kept
    pub takes_snapshot : (snapshot : Snapshot)
        → Reads IsSnapshot source.storage source.path old (Ok snapshot) new
        → TakesSnapshot (with_nodes cluster old) (Some source) (Some effect)
        (SnapshotIs (length snapshot.refs) (length snapshot.objects))
        (with_answer (with_nodes cluster new) effect (with_snapshot snapshot))
    takes_snapshot snapshot read = inr (record {
      snapshot = snapshot;
      held = read.0;
      is = read.1;
      answer_ = refl;
      kept = ap (λ (nodes : NodesState). with_answer (with_nodes cluster nodes) effect
          (with_snapshot snapshot)) read.2;
    })

    -- the source does not hold the repository
    pub takes_none : (why : NodeRefusal)
        → Reads IsSnapshot source.storage source.path old (Err (Refused why)) new
        → TakesSnapshot (with_nodes cluster old) (Some source) (Some effect)
        (refused (Node why)) (with_nodes cluster new)
    takes_none why read = inl (record {
      missing = read.0;
      answer_ = ap (λ (w : NodeRefusal). refused (Node w)) read.1;
      same = ap (with_nodes cluster) read.2;
    })

-- an answer of which nothing is kept leaves the ledger as it was
pub nothing_kept : (cluster : Cluster) (effect : Effect)
    → with_answer cluster effect keeps_nothing ≡ cluster
nothing_kept cluster effect = ap (with_ledger cluster) (fun_ext (λ repo. fun_ext (λ storage.
    fun_ext (λ lease. at repo storage lease (repo == effect.at.repo)
    (storage == effect.at.storage) (lease == effect.lease) refl refl refl))))
  where
    at : (repo storage lease : ℕ) (r s l : Bool) → (repo == effect.at.repo) ≡ r
        → (storage == effect.at.storage) ≡ s → (lease == effect.lease) ≡ l
        → cond (r && s && l) (purpose_at cluster effect) (cluster.ledger repo storage lease)
        ≡ cluster.ledger repo storage lease
    at repo storage lease true true true is_r is_s is_l =
        let r : repo ≡ effect.at.repo = eqb-true repo effect.at.repo is_r in
        let s : storage ≡ effect.at.storage = eqb-true storage effect.at.storage is_s in
        let l : lease ≡ effect.lease = eqb-true lease effect.lease is_l in
        cc
    at repo storage lease true true false is_r is_s is_l = refl
    at repo storage lease true false l is_r is_s is_l = refl
    at repo storage lease false s l is_r is_s is_l = refl
