-- What each call keeps at the place of its repository, each step keeps at each place, and so do all
-- steps one after the other.
use Rattle.std.proofs.Common.{◌≡◌, ◌≢◌, ℕ, List, [], ◌∷◌, Option, Result, Ok, Err, sym, subst, inl, inr}
use Rattle.std.specs.Str.{bytes_eq}
use Rattle.std.proofs.lemmas.Bool.{cases_Bool}
use Rattle.std.proofs.lemmas.Bool.Decides.{not_from_Decides}
use Rattle.std.proofs.lemmas.Slice.Eq.{bytes_eq-Decides}
use Rattle.px_base.specs.RefList.{IsRefList}
use Rattle.px_base.specs.declared.hash.Hash.{Hash}
use Rattle.px_base.specs.declared.push.Push.{Push}
use Rattle.px_base.specs.Update.{AreUpdates}
use Rattle.node_calls.specs.Calls.{Aborts, Applies, Commits, Creates, Prepares, Removes}
use Rattle.node_calls.specs.Ends.{Ends, FenceEnds, IsDone, IsEither, IsRaised, ListEnds, ReadEnds}
use Rattle.node_calls.specs.ReplicaState.{Changes, NodeState, ReplicaState, Same, raised, without_ready}
use Rattle.node_calls.specs.Reads.{HasObject, HasRefs, IsSnapshot}
use Rattle.node_calls.specs.Steps.{IsRun, IsStep, Runs, create, prepare, commit, abort, fence, refs, object, snapshot, apply, remove, list, ping, loses_ready}
use Rattle.node_calls.specs.declared.node.NodeError.{NodeError}
use Rattle.node_calls.specs.declared.node.NodeError.TheVariants.{Fault, Memory, Refused}
use Rattle.px_ops.specs.declared.node_refusal.NodeRefusal.{NodeRefusal}
use Rattle.node_calls.specs.declared.snapshot.Snapshot.{Snapshot}

-- the relation holds between what a place is and what each call makes of it
pub record Keeps (R : ReplicaState → ReplicaState → Type 0) : Type 0 where
  pub stays : (place : ReplicaState) → R place place
  pub creates : (lease : ℕ) (place : ReplicaState) (answer : Unit {0}) (then_ : ReplicaState)
      → Creates lease place answer then_ → R place then_
  pub prepares : (lease : ℕ) (push : Push) (place : ReplicaState) (answer : Hash) (then_ : ReplicaState)
      → AreUpdates push.updates → Prepares lease push place answer then_ → R place then_
  pub commits : (lease : ℕ) (hash : Hash) (place : ReplicaState) (answer : Hash) (then_ : ReplicaState)
      → Commits lease hash place answer then_ → R place then_
  pub aborts : (lease : ℕ) (place : ReplicaState) (answer : Unit {0}) (then_ : ReplicaState)
      → Aborts lease place answer then_ → R place then_
  pub raises : (lease : ℕ) (place : ReplicaState) → R place (raised lease place)
  pub applies : (lease : ℕ) (given : Snapshot) (place : ReplicaState) (answer : Unit {0}) (then_ : ReplicaState)
      → IsRefList given.refs → Applies lease given place answer then_ → R place then_
  pub removes : (lease : ℕ) (place : ReplicaState) (answer : Unit {0}) (then_ : ReplicaState)
      → Removes lease place answer then_ → R place then_
  pub ends : (place : ReplicaState) → R place (without_ready place)

module _ (R : ReplicaState → ReplicaState → Type 0) (keeps : Keeps R) where
  module _ (old new : NodeState) where
    same_keeps : Same old new → (p : List ℕ) → R (old p) (new p)
    same_keeps same p =
        subst (λ (place : ReplicaState). R (old p) place) (sym (same p)) (keeps.stays (old p))

    changes_keep : (path : List ℕ) (place : ReplicaState) → Changes old new path place
        → R (old path) place → (p : List ℕ) → R (old p) (new p)
    changes_keep path place changes here p = elim (cases_Bool (bytes_eq p path)) [
      | inl is ↦
          let one : p ≡ path = (bytes_eq-Decides p path).0 is in
          subst (λ (q : List ℕ). R (old q) (new q)) (sym one)
          (subst (λ (x : ReplicaState). R (old path) x) (sym changes.here) here)
      | inr other ↦
          let apart : p ≢ path =
          not_from_Decides (bytes_eq p path) (bytes_eq-Decides p path) other in
          subst (λ (place : ReplicaState). R (old p) place) (sym (changes.others p apart))
          (keeps.stays (old p))
    ]

    module _ {A : Type 0} (refuses : ReplicaState → NodeRefusal → Type 0)
        (does : ReplicaState → A → ReplicaState → Type 0) (path : List ℕ)
        (does_keep : (answer : A) (then_ : ReplicaState) → does (old path) answer then_
        → R (old path) then_)
      where
        done_keeps : (answer : A) → IsDone refuses does path old new answer → (p : List ℕ)
            → R (old p) (new p)
        done_keeps answer done p =
            changes_keep path done.place done.changes (does_keep answer done.place done.does_) p

        either_keeps : IsEither refuses does path old new → (p : List ℕ) → R (old p) (new p)
        either_keeps (inl same) p = same_keeps same p
        either_keeps (inr done) p = done_keeps done.0 done.1 p

        ends_keep : (result : Result A NodeError) → Ends refuses does path result old new
            → (p : List ℕ) → R (old p) (new p)
        ends_keep (Ok answer) ends p = done_keeps answer ends p
        ends_keep (Err (Refused r)) ends p = same_keeps ends.1 p
        ends_keep (Err Fault) ends p = either_keeps ends p
        ends_keep (Err Memory) ends p = either_keeps ends p

    raised_keeps : (lease : ℕ) (path : List ℕ) → IsRaised lease path old new → (p : List ℕ)
        → R (old p) (new p)
    raised_keeps lease path is p =
        changes_keep path (raised lease (old path)) is (keeps.raises lease (old path)) p

    fence_keeps : (lease : ℕ) (path : List ℕ) (result : Result (Option ℕ) NodeError)
        → FenceEnds lease path result old new → (p : List ℕ) → R (old p) (new p)
    fence_keeps lease path (Ok last) ends p = raised_keeps lease path ends.2 p
    fence_keeps lease path (Err (Refused r)) ends p = raised_keeps lease path ends.2 p
    fence_keeps lease path (Err Fault) (inl same) p = same_keeps same p
    fence_keeps lease path (Err Fault) (inr is) p = raised_keeps lease path is p
    fence_keeps lease path (Err Memory) (inl same) p = same_keeps same p
    fence_keeps lease path (Err Memory) (inr is) p = raised_keeps lease path is p

    read_same : {A : Type 0} (IsAnswer : ReplicaState → A → Type 0) (path : List ℕ)
        (result : Result A NodeError) → ReadEnds IsAnswer path result old new → Same old new
    read_same IsAnswer path (Ok answer) ends = ends.2
    read_same IsAnswer path (Err (Refused r)) ends = ends.2
    read_same IsAnswer path (Err Fault) ends = ends
    read_same IsAnswer path (Err Memory) ends = ends

    list_same : (result : Result (List (List ℕ)) NodeError) → ListEnds result old new → Same old new
    list_same (Ok paths) ends = ends.1
    list_same (Err e) ends = ends

    pub step_keeps : IsStep old new → (p : List ℕ) → R (old p) (new p)
    step_keeps (create lease path result ends) p =
        ends_keep _ _ path (keeps.creates lease (old path)) result ends p
    step_keeps (prepare lease push path result lawful ends) p =
        ends_keep _ _ path
        (λ answer then_ done. keeps.prepares lease push (old path) answer then_ lawful done)
        result ends p
    step_keeps (commit lease hash path result ends) p =
        ends_keep _ _ path (keeps.commits lease hash (old path)) result ends p
    step_keeps (abort lease path result ends) p =
        ends_keep _ _ path (keeps.aborts lease (old path)) result ends p
    step_keeps (fence lease path result ends) p = fence_keeps lease path result ends p
    step_keeps (refs path result ends) p = same_keeps (read_same HasRefs path result ends) p
    step_keeps (object id path result ends) p =
        same_keeps (read_same (HasObject id) path result ends) p
    step_keeps (snapshot path result ends) p = same_keeps (read_same IsSnapshot path result ends) p
    step_keeps (apply lease given path result lawful ends) p =
        ends_keep _ _ path
        (λ answer then_ done. keeps.applies lease given (old path) answer then_ lawful done)
        result ends p
    step_keeps (remove lease path result ends) p =
        ends_keep _ _ path (keeps.removes lease (old path)) result ends p
    step_keeps (list result ends) p = same_keeps (list_same result ends) p
    step_keeps (ping ends) p = same_keeps ends p
    step_keeps (loses_ready ended) p =
        subst (λ (place : ReplicaState). R (old p) place) (sym (ended p)) (keeps.ends (old p))

  module _ (through : (a b c : ReplicaState) → R a b → R b c → R a c) where
    runs_keep : (old : NodeState) (nodes : List NodeState) (new : NodeState) → Runs old nodes new
        → (p : List ℕ) → R (old p) (new p)
    runs_keep old [] new same p =
        subst (λ (node : NodeState). R (old p) (node p)) same (keeps.stays (old p))
    runs_keep old (next ∷ nodes) new runs p =
        through (old p) (next p) (new p) (step_keeps old next runs.0 p)
        (runs_keep next nodes new runs.1 p)

    pub run_keeps : (old new : NodeState) → IsRun old new → (p : List ℕ) → R (old p) (new p)
    run_keeps old new run p = runs_keep old run.nodes new run.runs p
