-- The rows of a shelf after each effect.
use Rattle.std.proofs.Common.{◌≡◌, ◌≤◌, ◌<◌, ◌+◌, ℕ, List, Bool, true, false, cond, Option, Some, None, refl, sym, ap, ◌∙◌, subst, arith, inl}
use Rattle.std.specs.FinMap.{empty}
use Rattle.std.specs.Option.{option_map, option_or}
use Rattle.std.specs.Prelude.{◌==◌, ◌&&◌, not, IfErr, IfOk, IfSome, OnErr, OnOk, nat_lt, Result, Ok, Err}
use Rattle.px_base.specs.Object.{GitObject}
use Rattle.px_base.specs.RefList.{IsRefList, References}
use Rattle.px_base.specs.RepoPath.{IsRepoPath}
use Rattle.px_base.specs.declared.hash.Hash.{Hash}
use Rattle.px_base.specs.declared.push.Push.{Push}
use Rattle.objstore.specs.Bundle.{bundle_fault}
use Rattle.px_keeper.specs.Change.{applied}
use Rattle.px_keeper.specs.Row.{Rows}
use Rattle.px_keeper.specs.declared.change.Change.{Change}
use Rattle.node_calls.proofs.OptionLemmas.{no_first, no_second}
use Rattle.node_rows.proofs.Alike.{rows_of_nothing, stand_same}
use Rattle.px_node.proofs.StandCalls.{stand_aborted, stand_committed, stand_created, stand_prepared, stand_raised, stand_removed, stand_taken_over}
use Rattle.std.specs.Map.{values_of}
use Rattle.objstore.specs.Reach.{IsClosed}
use Rattle.node_replica.specs.Checks.{IsNoRefusal}
use Rattle.node_calls.specs.Ends.{Ends}
use Rattle.node_calls.specs.declared.node.NodeError.TheVariants.{Fault, Memory, Refused}
use Rattle.node_calls.specs.declared.snapshot.Snapshot.{Snapshot}
use Rattle.node_calls.specs.Calls.{Applies, ApplyRefuses, aborted, apply_refusal, committed, create_refusal, created, fenced, has_none, not_held, prepared, ready_under, removed, with_coming}
use Rattle.node_replica.specs.Effects.{CommitsAt, MayBeDone, taken_over}
use Rattle.node_calls.specs.ReplicaState.{Changes, NodeState, ReplicaState, ReadyPush, Same, nothing, raised}
use Rattle.node_rows.specs.Rows.{StandFor}
use Rattle.node_replica.specs.Kept.{Keeps}
use Rattle.px_node.specs.Shelf.{RowsStand}
use Rattle.node_rows.specs.Writes.{applied_rows, committed_rows, emptied_rows, fenced_rows}
use Rattle.node_calls.specs.declared.node.NodeError.{NodeError}
use Rattle.px_ops.specs.declared.node_refusal.NodeRefusal.{NodeRefusal}
use Rattle.px_ops.specs.declared.node_refusal.NodeRefusal.TheVariants.{Fenced, NoRepo, RepoExists}

-- a lease that is admitted is not below the fence
admitted : (lease fence : ℕ) (b : Bool) → nat_lt lease fence ≡ b
    → cond b (Some (Fenced fence)) None ≡ None → fence ≤ lease
admitted lease fence true is none = absurd (cc)
admitted lease fence false is none = grind (arith, is)

pub admits : (lease : ℕ) (place : ReplicaState) → fenced lease place ≡ None → place.fence ≤ lease
admits lease place none = admitted lease place.fence (nat_lt lease place.fence) refl none

pub admits_first : (lease : ℕ) (place : ReplicaState) (more : Option NodeRefusal)
    → option_or (fenced lease place) more ≡ None → place.fence ≤ lease
admits_first lease place more none = admits lease place (no_first (fenced lease place) more none)

pub create_admits : (lease : ℕ) (place : ReplicaState) → create_refusal lease place ≡ None
    → place.fence ≤ lease
create_admits lease place none = admits_first lease place
    (cond (place.held && not (has_none place.refs)) (Some RepoExists) None) none

holds : (b : Bool) → cond b None (Some NoRepo) ≡ None → b ≡ true
holds true none = refl
holds false none = absurd (cc)

-- a place that a call is not refused at is held
pub held_second : (lease : ℕ) (place : ReplicaState) (more : Option NodeRefusal)
    → option_or (fenced lease place) (option_or (not_held place) more) ≡ None → place.held ≡ true
held_second lease place more none =
    holds place.held (no_first (not_held place) more
    (no_second (fenced lease place) (option_or (not_held place) more) none))

-- where no rows are kept, they stand for the node that has nothing
pub rows_at_first : (kept : Option Rows) (node : NodeState) → ((path : List ℕ) → node path ≡ nothing)
    → IfSome kept (λ (rows : Rows). rows ≡ empty) → RowsStand kept node
rows_at_first kept node none is rows there =
    let nil : rows ≡ empty = subst (λ (o : Option Rows). IfSome o (λ (r : Rows). r ≡ empty)) there is in
    subst (λ (r : Rows). StandFor r node) (sym nil) (rows_of_nothing node none)

-- the push that is ready under a lease is the one that is ready
ready_is : (lease : ℕ) (ready : Option ReadyPush) (push : ReadyPush)
    → ready_under lease ready ≡ Some push → ready ≡ Some push
ready_is lease None push is = absurd (cc)
ready_is lease (Some one) push is = at (one.lease == lease) is
  where
    at : (b : Bool) → cond b (Some one) None ≡ Some push → Some one ≡ Some push
    at true is_ = is_
    at false is_ = absurd (cc)

-- the rows stand for the same node still
pub rows_same : (rows rows' : Option Rows) (old new : NodeState) → RowsStand rows old
    → rows' ≡ rows → Same old new → RowsStand rows' new
rows_same rows rows' old new stand is same r there =
    stand_same r old new same (stand r (sym is ∙ there))

-- and for another one once the batch was kept that leads to it
kept : (rows rows' : Option Rows) (old new : NodeState) (batch : List Change) → RowsStand rows old
    → Keeps batch rows rows'
    → ((r : Rows) → StandFor r old → StandFor (applied r batch) new) → RowsStand rows' new
kept rows rows' old new batch stand is leads r there = at rows stand (sym is ∙ there)
  where
    at : (o : Option Rows) → RowsStand o old
        → option_map (λ (k : Rows). applied k batch) o ≡ Some r → StandFor r new
    at None stand_ none = absurd (cc)
    at (Some k) stand_ some =
        let same : applied k batch ≡ r = cc in
        subst (λ (q : Rows). StandFor q new) same (leads k (stand_ k refl))

-- what is known where a batch was kept of a repository that had this, once there was room for it
pub record IsKept (rows rows' : Option Rows) (before old : NodeState) (path : List ℕ)
    (place : ReplicaState) (batch : List Change) : Type 0 where
  pub stand : RowsStand rows before
  pub same : Same before old
  pub here : place ≡ before path
  pub lawful : IsRepoPath path
  pub kept_ : Keeps batch rows rows'

module _ (rows rows' : Option Rows) (before old new : NodeState) (path : List ℕ) (place : ReplicaState)
    (batch : List Change) (is : IsKept rows rows' before old path place batch) where
  -- it had this still
  there : place ≡ old path
  there = is.here ∙ sym (is.same path)

  now : RowsStand rows old
  now = rows_same rows rows before old is.stand refl is.same

  leads : (other : ReplicaState → List Change) → batch ≡ other place
      → ((r : Rows) → StandFor r old → StandFor (applied r (other (old path))) new)
      → RowsStand rows' new
  leads other same on =
      kept rows rows' old new batch now is.kept_
      (λ r stand. subst (λ (b : List Change). StandFor (applied r b) new)
      (sym (same ∙ ap other there)) (on r stand))

  below : (lease : ℕ) → place.fence ≤ lease → (old path).fence ≤ lease
  below lease above = subst (λ (p : ReplicaState). p.fence ≤ lease) there above

  pub rows_created : (lease : ℕ) → place.fence ≤ lease → batch ≡ emptied_rows path lease true place
      → Changes old new path (created lease (old path)) → RowsStand rows' new
  rows_created lease above same changes =
      leads (emptied_rows path lease true) same (λ r stand.
      stand_created r old new path stand is.lawful lease (below lease above) changes)

  pub rows_removed : (lease : ℕ) → place.fence ≤ lease
      → batch ≡ emptied_rows path lease false place
      → Changes old new path (removed lease (old path)) → RowsStand rows' new
  rows_removed lease above same changes =
      leads (emptied_rows path lease false) same (λ r stand.
      stand_removed r old new path stand is.lawful lease (below lease above) changes)

  pub rows_aborted : (lease : ℕ) → place.fence ≤ lease
      → batch ≡ fenced_rows path (lease + 1) place
      → Changes old new path (aborted lease (old path)) → RowsStand rows' new
  rows_aborted lease above same changes =
      leads (fenced_rows path (lease + 1)) same (λ r stand.
      stand_aborted r old new path stand is.lawful lease (below lease above) changes)

  pub rows_prepared : (lease : ℕ) (push : Push) → place.fence ≤ lease → place.held ≡ true
      → batch ≡ fenced_rows path lease place
      → Changes old new path (prepared lease push (old path)) → RowsStand rows' new
  rows_prepared lease push above held same changes =
      leads (fenced_rows path lease) same (λ r stand.
      stand_prepared r old new path stand is.lawful lease (below lease above) push
      (subst (λ (p : ReplicaState). p.held ≡ true) there held) changes)

  pub rows_raised : (lease : ℕ) → place.fence < lease → batch ≡ fenced_rows path lease place
      → Changes old new path (raised lease (old path)) → RowsStand rows' new
  rows_raised lease above same changes =
      leads (fenced_rows path lease) same (λ r stand.
      stand_raised r old new path stand is.lawful lease
      (subst (λ (p : ReplicaState). p.fence < lease) there above) changes)

  pub rows_taken_over : (lease : ℕ) (refs : References) (objects : List GitObject)
      → place.fence ≤ lease → bundle_fault place.objects 0 objects ≡ None → IsRefList refs
      → batch ≡ applied_rows path lease refs objects place
      → Changes old new path (taken_over lease refs objects (old path)) → RowsStand rows' new
  rows_taken_over lease refs objects above comes list same changes =
      leads (applied_rows path lease refs objects) same (λ r stand.
      stand_taken_over r old new path stand is.lawful lease (below lease above) refs objects
      (subst (λ (p : ReplicaState). bundle_fault p.objects 0 objects ≡ None) there comes)
      list.ordered changes)

  pub rows_committed : (lease : ℕ) (push : ReadyPush) → place.fence ≤ lease → place.held ≡ true
      → MayBeDone place push → batch ≡ committed_rows path lease push place
      → Changes old new path (committed lease push (old path)) → RowsStand rows' new
  rows_committed lease push above held may same changes =
      let done : MayBeDone (old path) push =
      subst (λ (p : ReplicaState). MayBeDone p push) there may in
      leads (committed_rows path lease push) same (λ r stand.
      stand_committed r old new path stand is.lawful lease (below lease above) push
      (subst (λ (p : ReplicaState). p.held ≡ true) there held) done.refs.ordered done.fits done.comes
      changes)

  rows_done : (lease : ℕ) (vote : Hash) → CommitsAt lease path old new vote → place.fence ≤ lease
      → place.held ≡ true
      → IfSome place.ready (λ (push : ReadyPush). batch ≡ committed_rows path lease push place)
      → IfSome place.ready (MayBeDone place) → RowsStand rows' new
  rows_done lease vote does above held same may =
      let push = does.does_.push in
      let ready : place.ready ≡ Some push =
      ap (λ (p : ReplicaState). p.ready) there ∙ ready_is lease (old path).ready push does.does_.ready in
      rows_committed lease push above held
      (subst (λ (o : Option ReadyPush). IfSome o (MayBeDone place)) ready may)
      (subst (λ (o : Option ReadyPush).
      IfSome o (λ (p : ReadyPush). batch ≡ committed_rows path lease p place)) ready same)
      (subst (λ (p : ReplicaState). Changes old new path p) does.does_.done does.changes)

module _ (rows rows' : Option Rows) (before old new : NodeState) (path : List ℕ) (place : ReplicaState)
    (batch : List Change) (stand : RowsStand rows before) (same : Same before old)
    (here : place ≡ before path) (lawful : IsRepoPath path) (lease : ℕ) (above : place.fence ≤ lease)
  where
    as_kept : Keeps batch rows rows' → IsKept rows rows' before old path place batch
    as_kept is = record { stand = stand; same = same; here = here; lawful = lawful; kept_ = is }

    as_before : rows' ≡ rows → Same old new → RowsStand rows' new
    as_before is same_ =
        rows_same rows rows' old new (rows_same rows rows before old stand refl same) is same_

    pub rows_after_commit : (result : Result Hash NodeError) → place.held ≡ true
        → IfSome place.ready (λ (push : ReadyPush). batch ≡ committed_rows path lease push place)
        → IfSome place.ready (MayBeDone place) → IfOk result (CommitsAt lease path old new)
        → OnOk result (Keeps batch rows rows') → OnErr result (Same old new)
        → OnErr result (rows' ≡ rows) → RowsStand rows' new
    rows_after_commit (Ok vote) held is may does kept_ err err_rows =
        rows_done rows rows' before old new path place batch (as_kept kept_) lease vote does above held
        is may
    rows_after_commit (Err e) held is may does kept_ err err_rows = as_before err_rows err

    pub rows_after_apply : (result : Result (Unit {0}) NodeError) (refs : References)
        (objects : List GitObject) → bundle_fault place.objects 0 objects ≡ None → IsRefList refs
        → batch ≡ applied_rows path lease refs objects place
        → OnOk result (Changes old new path (taken_over lease refs objects (old path)))
        → OnOk result (Keeps batch rows rows') → OnErr result (Same old new)
        → OnErr result (rows' ≡ rows) → RowsStand rows' new
    rows_after_apply (Ok tt) refs objects comes list is changes kept_ err err_rows =
        rows_taken_over rows rows' before old new path place batch (as_kept kept_) lease refs objects
        above comes list is changes
    rows_after_apply (Err e) refs objects comes list is changes kept_ err err_rows =
        as_before err_rows err

-- a snapshot was taken over, or it was not, as a call on a node may end
pub apply_ends : (lease : ℕ) (given : Snapshot) (path : List ℕ)
    (result : Result (Unit {0}) NodeError) (before old new : NodeState) (place : ReplicaState)
    (refs : References) (objects : List GitObject) → Same before old → place ≡ before path
    → apply_refusal lease given place ≡ None
    → IsClosed (with_coming place given.objects) (values_of given.refs) → refs ≡ given.refs
    → objects ≡ given.objects
    → OnOk result (Changes old new path (taken_over lease refs objects (old path)))
    → OnErr result (Same old new) → IfErr result IsNoRefusal
    → Ends (ApplyRefuses lease given) (Applies lease given) path result before new
apply_ends lease given path (Ok tt) before old new place refs objects same here accepted closed
    is_refs is_objects changes err known =
    record {
      place = taken_over lease refs objects (old path);
      does_ = record {
        accepted = subst (λ (p : ReplicaState). apply_refusal lease given p ≡ None) here accepted;
        closed = subst (λ (p : ReplicaState).
            IsClosed (with_coming p given.objects) (values_of given.refs)) here closed;
        is = ap (λ (r : References). taken_over lease r objects (old path)) is_refs
            ∙ ap (λ (o : List GitObject). taken_over lease given.refs o (old path)) is_objects
            ∙ ap (taken_over lease given.refs given.objects) (same path);
      };
      changes = record {
        here = changes.here;
        others = λ other differs. changes.others other differs ∙ same other;
      };
    }
apply_ends lease given path (Err (Refused r)) before old new place refs objects same here accepted
    closed is_refs is_objects changes err known = absurd known
apply_ends lease given path (Err Fault) before old new place refs objects same here accepted closed
    is_refs is_objects changes err known = inl (λ q. err q ∙ same q)
apply_ends lease given path (Err Memory) before old new place refs objects same here accepted closed
    is_refs is_objects changes err known = inl (λ q. err q ∙ same q)
