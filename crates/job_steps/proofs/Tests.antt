-- What a test that holds or fails says of its parts.
use Rattle.std.proofs.Common.{◌≡◌, ◌||◌, not, Bool, true, false, refl, sym, ◌∙◌}

pub not_true : (b : Bool) → not b ≡ true → b ≡ false
not_true true is = absurd (let z : false ≡ true = is in cc)
not_true false is = refl

pub not_false : (b : Bool) → not b ≡ false → b ≡ true
not_false true is = refl
not_false false is = absurd (let z : true ≡ false = is in cc)

-- where neither of two holds, both fail
pub neither : (a b : Bool) → (a || b) ≡ false → (a ≡ false) × (b ≡ false)
neither true b is = absurd (let z : true ≡ false = is in cc)
neither false b is = (refl, is)

-- no test holds and fails
pub true_false : {P : Type 0} (b : Bool) → b ≡ true → b ≡ false → P
true_false b holds fails = absurd (let z : true ≡ false = sym holds ∙ fails in cc)
