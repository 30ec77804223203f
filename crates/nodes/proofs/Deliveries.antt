-- How a call that ended at one node is seen by all of them.
use Rattle.std.proofs.Common.{◌≡◌, ◌<◌, ℕ, List, map, Bool, true, false, length, Option, Some, Result, Ok, Err, IfErr, OnErr, sym, ap, subst, ◌∙◌, get_or, option_map, slice_get, slice_set}
use Rattle.std.proofs.Math.Path.{fun_ext}
use Rattle.std.proofs.lemmas.List.{length-map, length-set, map-set}
use Rattle.std.proofs.lemmas.Option.{slice_get-map, slice_get_read}
use Rattle.px_node.specs.Shelf.{Replicas, place_at}
use Rattle.px_ops.specs.declared.node_refusal.NodeRefusal.{NodeRefusal}
use Rattle.node_calls.specs.Ends.{Ends, FenceEnds, ReadEnds}
use Rattle.node_calls.specs.ReplicaState.{Changes, NodeState, ReplicaState, Same, raised}
use Rattle.node_calls.specs.declared.node.NodeError.{NodeError}
use Rattle.node_replica.specs.Checks.{IsNoRefusal}
use Rattle.px_cluster.specs.Cluster.{with_state, with_value}
use Rattle.nodes.specs.Calls.{Delivered, Fenced, Reads, with_replica}
use Rattle.nodes.specs.Fault.{answer_of}
use Rattle.nodes.specs.State.{KeptNodes, had_by, state_of}
use Rattle.nodes.specs.declared.fault.NodeFault.{NodeFault}
use Rattle.nodes.specs.declared.fault.NodeFault.TheVariants.{Memory, Refused}
use Rattle.nodes.proofs.NodeLists.{changed_node, same_node, value-same, value-set}

module _ {S : Type 0} (shelves : List S) (view : S → Replicas) (ready : Bool) (old : KeptNodes)
    (is : record { nodes = map view shelves; ready = ready } ≡ old) (storage : ℕ)
    (within : storage < (state_of old).count) (path : List ℕ) (before after : S)
    (at : before ≡ get_or shelves storage before) where
  abbrev new : KeptNodes
  new = record { nodes = map view (slice_set shelves storage after); ready = ready }

  abbrev old_node : NodeState
  old_node = place_at (view before)

  abbrev new_node : NodeState
  new_node = place_at (view after)

  there : slice_get shelves storage ≡ Some before
  there = slice_get_read shelves (state_of old).count storage before
      (ap (λ (kept : KeptNodes). length kept.nodes) (sym is) ∙ length-map shelves view) within at

  -- what the node of the storage had
  here : (state_of old).node storage ≡ old_node
  here = ap (λ (kept : KeptNodes). (state_of kept).node storage) (sym is)
      ∙ ap had_by (slice_get-map view shelves storage ∙ ap (option_map view) there)

  -- its node is this, and all else is as it was
  replaced : (node : NodeState) → new_node ≡ node → state_of new
      ≡ record (state_of old) { node = with_value (state_of old).node storage node }
  replaced node same =
      let list = map view shelves in
      let set : map view (slice_set shelves storage after) ≡ slice_set list storage (view after) =
      map-set view shelves storage after in
      let stands : slice_get list storage ≡ Some (view before) =
      slice_get-map view shelves storage ∙ ap (option_map view) there in
      let moved : (λ (n : ℕ). had_by (slice_get (slice_set list storage (view after)) n))
      ≡ with_value (λ n. had_by (slice_get list n)) storage node =
      fun_ext (value-set had_by list storage (view before) (view after) stands)
      ∙ ap (with_value (λ n. had_by (slice_get list n)) storage) same in
      let count : length (slice_set list storage (view after)) ≡ length list =
      length-set list storage (view after) in
      ap (λ (nodes : List Replicas). state_of (record { nodes = nodes; ready = ready })) set
      ∙ (λ i. record { node = moved i; count = count i; ready = ready })
      ∙ ap (λ (kept : KeptNodes).
      record (state_of kept) { node = with_value (state_of kept).node storage node }) is

  -- its node is as it was, and so are all
  unchanged : Same old_node new_node → state_of new ≡ state_of old
  unchanged same = replaced ((state_of old).node storage)
      (same_node old_node new_node same ∙ sym here)
      ∙ ap (λ (node : ℕ → NodeState). record (state_of old) { node = node })
      (value-same (state_of old).node storage)

  -- its replica changed, and all else is as it was
  changed : (state : ReplicaState) → Changes old_node new_node path state
      → state_of new ≡ with_replica (state_of old) storage path state
  changed state changes = replaced (with_state ((state_of old).node storage) path state)
      (changed_node old_node new_node path state changes
      ∙ ap (λ (node : NodeState). with_state node path state) (sym here))

  -- what holds of what the node had holds of what is seen of it
  had : (P : ReplicaState → Type 0) → P (old_node path) → P ((state_of old).node storage path)
  had P holds = subst (λ (node : NodeState). P (node path)) (sym here) holds

  -- ---- calls, as the node ended them; `R` is what else is told where it is as it was

  -- a call that changes a replica
  module _ {A : Type 0} (refuses : ReplicaState → NodeRefusal → Type 0)
      (does : ReplicaState → A → ReplicaState → Type 0) (R : Type 0) where
    ended_so : (result : Result A NodeFault)
        → Ends refuses does path (answer_of result) old_node new_node
        → OnErr (answer_of result) (Same old_node new_node × R)
        → Delivered refuses does storage path (state_of old) result (state_of new)
    ended_so (Ok answer) ended stays = record {
      state = ended.place;
      does_ = had (λ state. does state answer ended.place) ended.does_;
      changes = changed ended.place ended.changes;
    }
    ended_so (Err (Refused why)) ended stays =
        (had (λ state. refuses state why) ended.0, unchanged ended.1)
    ended_so (Err Memory) ended stays = unchanged stays.0

    pub delivered : (result : Result A NodeFault) (answer : Result A NodeError)
        → answer ≡ answer_of result → Ends refuses does path answer old_node new_node
        → OnErr answer (Same old_node new_node × R)
        → Delivered refuses does storage path (state_of old) result (state_of new)
    delivered result answer told ended stays = ended_so result
        (subst (λ (a : Result A NodeError). Ends refuses does path a old_node new_node) told ended)
        (subst (λ (a : Result A NodeError). OnErr a (Same old_node new_node × R)) told stays)

  -- a fence
  module _ (lease : ℕ) (R : Type 0) where
    fenced_so : (result : Result (Option ℕ) NodeFault)
        → FenceEnds lease path (answer_of result) old_node new_node
        → IfErr (answer_of result) (λ e. IsNoRefusal e → Same old_node new_node × R)
        → Fenced lease storage path (state_of old) result (state_of new)
    fenced_so (Ok last) ended stays = (
      had (λ state. state.held ≡ true) ended.0,
      had (λ state. last ≡ state.last) ended.1,
      had (λ state. state_of new ≡ with_replica (state_of old) storage path (raised lease state))
          (changed (raised lease (old_node path)) ended.2),
    )
    fenced_so (Err (Refused why)) ended stays = (
      had (λ state. state.held ≡ false) ended.0,
      ended.1,
      had (λ state. state_of new ≡ with_replica (state_of old) storage path (raised lease state))
          (changed (raised lease (old_node path)) ended.2),
    )
    fenced_so (Err Memory) ended stays = unchanged (stays tt).0

    pub fenced : (result : Result (Option ℕ) NodeFault) (answer : Result (Option ℕ) NodeError)
        → answer ≡ answer_of result → FenceEnds lease path answer old_node new_node
        → IfErr answer (λ e. IsNoRefusal e → Same old_node new_node × R)
        → Fenced lease storage path (state_of old) result (state_of new)
    fenced result answer told ended stays = fenced_so result
        (subst (λ (a : Result (Option ℕ) NodeError). FenceEnds lease path a old_node new_node)
        told ended)
        (subst (λ (a : Result (Option ℕ) NodeError).
        IfErr a (λ e. IsNoRefusal e → Same old_node new_node × R)) told stays)

  -- a reading
  module _ {A : Type 0} (IsAnswer : ReplicaState → A → Type 0) where
    read_so : (result : Result A NodeFault)
        → ReadEnds IsAnswer path (answer_of result) old_node new_node
        → Reads IsAnswer storage path (state_of old) result (state_of new)
    read_so (Ok answer) ended = (
      had (λ state. state.held ≡ true) ended.0,
      had (λ state. IsAnswer state answer) ended.1,
      unchanged ended.2,
    )
    read_so (Err (Refused why)) ended =
        (had (λ state. state.held ≡ false) ended.0, ended.1, unchanged ended.2)
    read_so (Err Memory) ended = unchanged ended

    pub read : (result : Result A NodeFault) (answer : Result A NodeError)
        → answer ≡ answer_of result → ReadEnds IsAnswer path answer old_node new_node
        → Reads IsAnswer storage path (state_of old) result (state_of new)
    read result answer told ended = read_so result
        (subst (λ (a : Result A NodeError). ReadEnds IsAnswer path a old_node new_node) told ended)
