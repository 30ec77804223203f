-- Where no name stands twice, each two names differ.
use Rattle.std.proofs.Common.{◌≡◌, ◌≢◌, ℕ, ◌<◌, List, [], ◌∷◌, ◌++◌, true, false, None, Some, arith, sym, ◌∙◌, inl, inr, take, length, get_or, zero, suc, append_assoc, append-nil, length-take-le}
use Rattle.std.specs.List.{list_any, AllPairs}
use Rattle.std.proofs.lemmas.Bool.{cases_Bool, false≢true}
use Rattle.std.proofs.lemmas.List.{get_or-take}
use Rattle.std.proofs.lemmas.List.Folds.{list_any_at}
use Rattle.std.proofs.lemmas.Slice.Eq.{bytes_eq-Decides}
use Rattle.px_base.specs.declared.voter.Voter.{Voter}
use Rattle.voters.specs.Panel.{same_name, first_repeated, first_repeated_after}

apart : (before vs : List Voter) → first_repeated_after before vs ≡ None → (j : ℕ) (d : Voter) → j < length vs → list_any (same_name (get_or vs j d).name) (before ++ take j vs) ≡ false
apart before [] e j d lt = absurd (omega (arith, lt))
apart before (v ∷ vs) e zero d lt =
    elim (cases_Bool (list_any (same_name v.name) before)) [
      | inl t ↦ (let twice : Some v.name ≡ None = rw t at e in absurd (cc))
      | inr f ↦ rw (append-nil before) f
    ]
apart before (v ∷ vs) e (suc j) d lt =
    elim (cases_Bool (list_any (same_name v.name) before)) [
      | inl t ↦ (let twice : Some v.name ≡ None = rw t at e in absurd (cc))
      | inr f ↦ rw append_assoc at (apart (before ++ v ∷ []) vs (rw f at e) j d (omega (arith, lt)))
    ]

-- the names of a panel differ
pub names_differ : (voters : List Voter) → first_repeated voters ≡ None → AllPairs (λ a b. a.name ≢ b.name) voters
names_differ voters e i j d lt in' same =
    let none = apart [] voters e j d in' in
    let within : i < length (take j voters) = rw (length-take-le j voters (omega (arith, in'))) lt in
    let there : same_name (get_or voters j d).name (get_or (take j voters) i d) ≡ true = rw (get_or-take j voters i d lt) ((bytes_eq-Decides (get_or voters i d).name (get_or voters j d).name).1 same) in
    false≢true (sym none ∙ list_any_at (same_name (get_or voters j d).name) (take j voters) i d within there)
