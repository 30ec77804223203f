-- The rows of objects that come, one after the other.
use Rattle.std.proofs.Common.{◌≡◌, ◌+◌, ◌<◌, ◌++◌, add-one, ℕ, zero, suc, List, [], ◌∷◌, length, drop, slice_get, Bool, true, false, cond, None, Some, refl, sym, ap, ◌∙◌, append_assoc, arith}
use Rattle.std.specs.Option.{is_some}
use Rattle.px_base.specs.Object.{GitObject}
use Rattle.objstore.specs.Entries.{Entries, object_at, own_name}
use Rattle.px_keeper.specs.declared.change.Change.{Change}
use Rattle.node_rows.specs.Writes.{coming_changes, object_change}

-- what stands at a place is the first of what is left from there
first_left : (objects : List GitObject) (at : ℕ) (object : GitObject)
    → slice_get objects at ≡ Some object → drop at objects ≡ object ∷ drop (suc at) objects
first_left [] at object is = absurd (cc)
first_left (first ∷ objects) zero object is =
    let same : first ≡ object = cc in ap (λ (o : GitObject). o ∷ objects) same
first_left (first ∷ objects) (suc at) object is = first_left objects at object is

-- within a list something stands at each place
pub not_past : (objects : List GitObject) (at : ℕ) → at < length objects
    → slice_get objects at ≡ None → ⊥
not_past [] at within none = absurd (omega arith)
not_past (first ∷ objects) zero within none = cc
not_past (first ∷ objects) (suc at) within none = not_past objects at (omega arith) none

module _ (path : List ℕ) (store : Entries) where
  -- the changes of a list are those of the first object and those of the others
  coming_changes-first : (object : GitObject) (objects : List GitObject)
      → coming_changes path store (object ∷ []) ++ coming_changes path store objects
      ≡ coming_changes path store (object ∷ objects)
  coming_changes-first object objects = at (is_some (object_at store (own_name object)))
    where
      at : (b : Bool) → cond b [] (object_change path object ∷ []) ++ coming_changes path store objects
          ≡ cond b (coming_changes path store objects)
          (object_change path object ∷ coming_changes path store objects)
      at true = refl
      at false = refl

  -- with those of one object more, and of what is left, a batch has what it had with all that was left
  pub one_more_coming : (objects : List GitObject) (at : ℕ) (object : GitObject)
      (before after : List Change) → slice_get objects at ≡ Some object
      → after ≡ before ++ coming_changes path store (object ∷ [])
      → after ++ coming_changes path store (drop (at + 1) objects)
      ≡ before ++ coming_changes path store (drop at objects)
  one_more_coming objects at object before after is added =
      let rest = drop (at + 1) objects in
      ap (λ (batch : List Change). batch ++ coming_changes path store rest) added
      ∙ append_assoc before (coming_changes path store (object ∷ [])) (coming_changes path store rest)
      ∙ ap (λ (more : List Change). before ++ more)
      (coming_changes-first object rest
      ∙ ap (coming_changes path store) (sym (left at is)))
    where
      left : (at : ℕ) → slice_get objects at ≡ Some object
          → drop at objects ≡ object ∷ drop (at + 1) objects
      left at is = rw add-one (first_left objects at object is)
