-- Lists from a place on.
use Rattle.std.proofs.Common.{◌≡◌, ◌+◌, ◌<◌, add-one, ℕ, List, ◌∷◌, length, drop, sym, ap, ◌∙◌}
use Rattle.std.proofs.Math.ListN.{get_or}
use Rattle.std.proofs.Math.Seq.{drop-cons}

-- the list from a place within it on has what stands there in front
pub drop-at : {A : Type 0} → (xs : List A) (index : ℕ) (any : A) → index < length xs
    → drop index xs ≡ get_or xs index any ∷ drop (index + 1) xs
drop-at xs index any within = rw add-one (drop-cons xs index any within)

-- and so where that has a name
pub drop-next : {A : Type 0} → (xs : List A) (index : ℕ) (x : A) → index < length xs
    → x ≡ get_or xs index x → drop index xs ≡ x ∷ drop (index + 1) xs
drop-next {A} xs index x within is =
    drop-at xs index x within ∙ ap (λ (y : A). y ∷ drop (index + 1) xs) (sym is)
