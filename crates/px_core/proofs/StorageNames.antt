-- A storage that has a name is found by it.
use Rattle.std.proofs.Common.{◌≡◌, ◌+◌, ℕ, suc, List, [], ◌∷◌, Bool, Option, None, Some, slice_get, refl, sym, ap, ◌∙◌, arith, inl, inr}
use Rattle.std.proofs.lemmas.Bool.{cases_Bool}
use Rattle.std.specs.Option.{option_map}
use Rattle.genbook.specs.Books.{known_as, with_virtual}
use Rattle.px_cluster.specs.Book.{Storage}
use Rattle.px_cluster.specs.Creating.{has_name}
use Rattle.px_cluster.specs.Ids.{storage_id}
use Rattle.px_cluster.specs.Numbers.{first_of, places_from, places_of}

-- the element at a place, counted from a number
record IsThere {A : Type 0} (n : ℕ) (xs : List A) (place : ℕ) : Type 0 where
  offset : ℕ
  is : place ≡ n + offset
  element : A
  there : slice_get xs offset ≡ Some element

first_there : {A : Type 0} (test : A → Bool) (n : ℕ) (xs : List A) (place : ℕ)
    → first_of (places_from n test xs) ≡ Some place → IsThere n xs place
first_there test n [] place is = absurd (let z : None ≡ Some place = is in cc)
first_there test n (x ∷ xs) place is = elim (cases_Bool (test x)) [
  | inl holds ↦ (let here : Some n ≡ Some place = rw holds at is in
      let same : n ≡ place = cc in
      record { offset = 0; is = omega (arith, same); element = x; there = refl })
  | inr fails ↦ (let later = first_there test (n + 1) xs place (rw fails at is) in record {
    offset = suc later.offset;
    is = omega (arith, later.is);
    element = later.element;
    there = later.there;
  })
]

pub known_none : (storages : List Storage) (name : List ℕ) → known_as storages name ≡ None
    → first_of (places_of (has_name name) storages) ≡ None
known_none storages name none = by (first_of (places_of (has_name name) storages)) refl
  where
    by : (found : Option ℕ) → first_of (places_of (has_name name) storages) ≡ found → found ≡ None
    by None is = refl
    by (Some place) is =
        let at = first_there (has_name name) 0 storages place is in
        let same : place ≡ at.offset = omega (arith, at.is) in
        let got : slice_get storages place ≡ Some at.element =
        ap (slice_get storages) same ∙ at.there in
        let z : Some (storage_id place, at.element.virt) ≡ None =
        sym (ap (option_map (λ (storage : Storage). (storage_id place, storage.virt))) got)
        ∙ ap (with_virtual storages) (sym is) ∙ none in
        absurd (cc)
