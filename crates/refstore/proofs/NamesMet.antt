-- The names that were met so far.
use Rattle.std.proofs.Common.{◌≡◌, ℕ, List, [], ◌∷◌, ◌++◌, ◌||◌, true, false, Bool, Bor, cond, refl, sym, ap, ◌∙◌}
use Rattle.std.specs.BTreeSet.{BTreeSet, contains}
use Rattle.std.proofs.lemmas.List.Folds.{list_any-append}
use Rattle.px_base.specs.RefList.{is_name, name_cmp}
use Rattle.refstore.proofs.Names.{names_laws}
use Rattle.refstore.specs.Named.{Named}
use Rattle.refstore.specs.Updates.{is_among}

-- either of two, the one first
either : (b a : Bool) → cond b true a ≡ (a || (b || false))
either true true = refl
either true false = refl
either false true = refl
either false false = refl

-- one more was met
pub Named-more : (old new : BTreeSet (Bor (List ℕ))) (name : List ℕ) (before : List (List ℕ))
    → ((q : Bor (List ℕ)) → contains (λ x y. name_cmp x.now y.now) new q
    ≡ cond (is_name name q.now) true (contains (λ x y. name_cmp x.now y.now) old q))
    → Named old before → Named new (before ++ name ∷ [])
Named-more old new name before adds named q =
    adds q
    ∙ ap (λ (b : Bool). cond (is_name name q.now) true b) (named q)
    ∙ either (is_name name q.now) (is_among q.now before)
    ∙ ap (λ (b : Bool). is_among q.now before || (b || false)) (names_laws.symm name q.now)
    ∙ sym (list_any-append (is_name q.now) before (name ∷ []))
