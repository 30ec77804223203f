-- Which voter a member of a push is: its place in the list of members.
use Rattle.std.proofs.Common.{◌≡◌, ◌==◌, ℕ, zero, suc, List, [], ◌∷◌, true, false, Option, None, Some, refl, sym, ◌∙◌, ap, subst, inl, inr, slice_get}
use Rattle.std.specs.Option.{option_map}
use Rattle.px_cluster.specs.Numbers.{is_one_of, place_in}
use Rattle.cluster_form.specs.Turns.{AreDistinct}
use Rattle.cluster_form.proofs.Lists.{bool, same_number, same_self, some_is}
use Rattle.cluster_form.proofs.OneOf.{or_later}

-- what stands at a place is one of the list
pub one_at : (members_ : List ℕ) (voter storage : ℕ) → slice_get members_ voter ≡ Some storage
    → is_one_of storage members_ ≡ true
one_at [] voter storage is = absurd (let z : None ≡ Some storage = is in cc)
one_at (x ∷ xs) zero storage is =
    let same = some_is x storage is in rw same (rw (same_self storage) refl)
one_at (x ∷ xs) (suc voter) storage is =
    or_later (x == storage) (is_one_of storage xs) (one_at xs voter storage is)

-- a place that is not the first
later_place : (place : Option ℕ) (voter : ℕ) → option_map suc place ≡ Some voter
    → (before : ℕ) × (place ≡ Some before) × (voter ≡ suc before)
later_place None voter is = absurd (let z : None ≡ Some voter = is in cc)
later_place (Some before) voter is = (before, refl, sym (some_is (suc before) voter is))

-- the place of a number is where it stands
pub placed_at : (members_ : List ℕ) (storage voter : ℕ) → place_in members_ storage ≡ Some voter
    → slice_get members_ voter ≡ Some storage
placed_at [] storage voter is = absurd (let z : None ≡ Some voter = is in cc)
placed_at (x ∷ xs) storage voter is = elim (bool (x == storage)) [
  | inl holds ↦ (let here : Some 0 ≡ Some voter = rw holds at is in
      subst (λ n. slice_get (x ∷ xs) n ≡ Some storage) (some_is 0 voter here)
      (ap (λ n. let o : Option ℕ = Some n in o) (same_number x storage holds)))
  | inr fails ↦ (let later = later_place (place_in xs storage) voter (rw fails at is) in
      subst (λ n. slice_get (x ∷ xs) n ≡ Some storage) (sym later.2)
      (placed_at xs storage later.0 later.1))
]

-- .. and where it stands is its place, as no number stands twice
pub place_is : (members_ : List ℕ) → AreDistinct members_ → (voter storage : ℕ)
    → slice_get members_ voter ≡ Some storage → place_in members_ storage ≡ Some voter
place_is [] distinct voter storage is = absurd (let z : None ≡ Some storage = is in cc)
place_is (x ∷ xs) distinct zero storage is =
    let same = some_is x storage is in rw same (rw (same_self storage) refl)
place_is (x ∷ xs) distinct (suc voter) storage is = elim (bool (x == storage)) [
  | inl holds ↦ absurd (let z : false ≡ true = sym distinct.0
      ∙ ap (λ n. is_one_of n xs) (same_number x storage holds) ∙ one_at xs voter storage is in cc)
  | inr fails ↦ (rw fails (ap (option_map suc) (place_is xs distinct.1 voter storage is)))
]

-- nobody else stands there
pub place_only : (members_ : List ℕ) (voter one : ℕ) → slice_get members_ voter ≡ Some one
    → (storage : ℕ) → (storage ≡ one → ⊥) → place_in members_ storage ≡ Some voter → ⊥
place_only members_ voter one is storage differs place =
    differs (some_is storage one (sym (placed_at members_ storage voter place) ∙ is))

-- .. or nobody at all
pub no_place : (members_ : List ℕ) (voter : ℕ) → slice_get members_ voter ≡ None
    → (storage : ℕ) → place_in members_ storage ≡ Some voter → ⊥
no_place members_ voter none storage place =
    let z : None ≡ Some storage = sym none ∙ placed_at members_ storage voter place in cc
