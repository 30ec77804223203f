-- The names that were met so far, as a set of references to them.
use denote.Ref.{Bor}
use Rattle.std.specs.Prelude.{◌≡◌, ℕ, List}
use Rattle.std.specs.BTreeSet.{BTreeSet, contains}
use Rattle.px_base.specs.RefList.{name_cmp}
use Rattle.refstore.specs.Updates.{is_among}

-- the set has these names and no others
abbrev pub Named : BTreeSet (Bor (List ℕ)) → List (List ℕ) → Type 0
Named names before = (q : Bor (List ℕ))
    → contains (λ x y. name_cmp x.now y.now) names q ≡ is_among q.now before
