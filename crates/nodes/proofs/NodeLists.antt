-- What is seen of the nodes after a call at one of them.
use Rattle.std.proofs.Common.{◌≡◌, ◌==◌, ◌∷◌, [], ℕ, zero, suc, List, Bool, true, false, bytes_eq, cond, Option, Some, refl, sym, ap, ◌∙◌, slice_get, slice_set}
use Rattle.std.proofs.Math.Dec.{eqb-suc-suc, eqb-suc-zero, eqb-zero-suc}
use Rattle.std.proofs.Math.Path.{fun_ext}
use Rattle.std.proofs.lemmas.Bool.{eqb-true}
use Rattle.std.proofs.lemmas.Option.{none-some}
use Rattle.std.proofs.lemmas.Slice.Eq.{bytes_eq-Decides}
use Rattle.node_calls.specs.ReplicaState.{Changes, NodeState, ReplicaState, Same}
use Rattle.px_cluster.specs.Cluster.{with_state, with_value}

-- ---- one node

-- a node that has of each repository what it had is the node that it was
pub same_node : (old new : NodeState) → Same old new → new ≡ old
same_node old new same = fun_ext same

-- a node of which one repository changed has that of it, and all else is as it was
pub changed_node : (old new : NodeState) (path : List ℕ) (state : ReplicaState)
    → Changes old new path state → new ≡ with_state old path state
changed_node old new path state changes = fun_ext (λ other. at other (bytes_eq other path) refl)
  where
    at : (other : List ℕ) (is : Bool) → bytes_eq other path ≡ is
        → new other ≡ cond is state (old other)
    at other true is =
        ap new ((bytes_eq-Decides other path).0 is) ∙ changes.here
    at other false not =
        changes.others other (λ same. let is = (bytes_eq-Decides other path).1 same in
        let no : true ≡ false = sym is ∙ not in absurd (cc))

-- ---- one of many

-- one element of a list is replaced
pub value-set : {S B : Type 0} (f : Option S → B) (list : List S) (at : ℕ) (old new : S)
    → slice_get list at ≡ Some old → (number : ℕ)
    → f (slice_get (slice_set list at new) number)
    ≡ with_value (λ n. f (slice_get list n)) at (f (Some new)) number
value-set f [] at old new there number = absurd (none-some old there)
value-set f (x ∷ list) zero old new there zero = refl
value-set f (x ∷ list) zero old new there (suc number) = rw (eqb-suc-zero number) refl
value-set f (x ∷ list) (suc at) old new there zero = rw (eqb-zero-suc at) refl
value-set f (x ∷ list) (suc at) old new there (suc number) =
    rw (eqb-suc-suc number at) (value-set f list at old new there number)

-- it is replaced by itself
pub value-same : {A : Type 0} (f : ℕ → A) (at : ℕ) → with_value f at (f at) ≡ f
value-same f at = fun_ext (λ number. same number (number == at) refl)
  where
    same : (number : ℕ) (is : Bool) → (number == at) ≡ is → cond is (f at) (f number) ≡ f number
    same number true is = ap f (sym (eqb-true number at is))
    same number false not = refl
