-- What a change of one repository leaves of the others.
use Rattle.std.proofs.Common.{◌≡◌, ◌≢◌, List, ℕ, true, sym, ap, ◌∙◌, ◌⊎◌, ⊎_elim, inl, inr}
use Rattle.std.proofs.lemmas.Bool.{cases_Bool}
use Rattle.px_base.specs.RefList.{is_name}
use Rattle.node_calls.specs.ReplicaState.{NodeState}
use Rattle.refstore.proofs.Names.{one_name, names_laws}

-- a path is this one, or another one, of which nothing changed
pub this_or_other : (old new : NodeState) (path : List ℕ)
    → ((other : List ℕ) → other ≢ path → new other ≡ old other) → (q : List ℕ)
    → (path ≡ q) ⊎ (new q ≡ old q)
this_or_other old new path others q = ⊎_elim (λ t. inl (one_name path q t))
    (λ f. inr (others q (λ same. absurd (
    let t : is_name path q ≡ true = ap (is_name path) same ∙ names_laws.refl path in
    cc))))
    (cases_Bool (is_name path q))
