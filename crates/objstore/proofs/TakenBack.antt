-- An object that came is taken back, and the store is what it was.
use Rattle.std.proofs.Common.{◌≡◌, ◌||◌, List, [], ◌∷◌, ◌++◌, Bool, true, false, cond, Option, Some, None, refl, sym, ap, ◌∙◌, subst}
use Rattle.std.specs.BTreeMap.{insert_entry}
use Rattle.std.proofs.lemmas.List.Folds.{list_any-append}
use Rattle.px_base.specs.Hash.{hash_cmp}
use Rattle.px_base.specs.Object.{GitObject}
use Rattle.px_base.specs.declared.hash.Hash.{Hash}
use Rattle.objstore.proofs.Changed.{Ascends, one_store, ascends-set, object_at-set, ascends-without, object_at-without}
use Rattle.objstore.proofs.Ids.{ids_laws, one_id}
use Rattle.objstore.specs.Bundle.{with_object, with_objects, without}
use Rattle.objstore.specs.Entries.{Entries, is_id, is_among, object_at, own_name}

-- the ids ascend
pub ascends-with_objects : (store : Entries) (objects : List GitObject) → Ascends store
    → Ascends (with_objects store objects)
ascends-with_objects store [] ascends = ascends
ascends-with_objects store (object ∷ objects) ascends =
    ascends-with_objects (with_object store object) objects
    (ascends-set (own_name object) object store ascends)

-- a choice of nothing undoes the choice of an object where there was nothing, also beside another one
undone_also : (a b : Bool) (object : GitObject) (was : Option GitObject) → (b ≡ true → was ≡ None)
    → cond (a || (b || false)) None (cond b (Some object) was) ≡ cond a None was
undone_also true b object was absent = refl
undone_also false true object was absent = sym (absent refl)
undone_also false false object was absent = refl

-- an id under which there is nothing has nothing under each name of it
absent_here : (store : Entries) (id q : Hash) → object_at store id ≡ None → is_id q id ≡ true
    → object_at store q ≡ None
absent_here store id q absent here =
    subst (λ (p : Hash). object_at store p ≡ None) (sym (one_id q id here)) absent

-- one object more, and its id with the others, come to the same
pub undo_more : (store was : Entries) (ids : List Hash) (id : Hash) (object : GitObject)
    → Ascends store → without store ids ≡ was → object_at store id ≡ None
    → without (insert_entry hash_cmp store id object) (ids ++ id ∷ []) ≡ was
undo_more store was ids id object ascends is absent =
    let more = insert_entry hash_cmp store id object in
    let ascends' : Ascends more = ascends-set id object store ascends in
    one_store (without more (ids ++ id ∷ [])) (without store ids)
    (ascends-without more (ids ++ id ∷ []) ascends') (ascends-without store ids ascends)
    (λ q. object_at-without more (ids ++ id ∷ []) ascends' q
    ∙ ap (λ (b : Bool). cond {A = Option GitObject} b None (object_at more q))
    (list_any-append (is_id q) ids (id ∷ []))
    ∙ ap (cond (is_among q ids || (is_id q id || false)) None)
    (object_at-set id object store q
    ∙ ap (λ (b : Bool). cond {A = Option GitObject} b (Some object) (object_at store q))
    (ids_laws.symm id q))
    ∙ undone_also (is_among q ids) (is_id q id) object (object_at store q)
    (absent_here store id q absent)
    ∙ sym (object_at-without store ids ascends q))
    ∙ is
