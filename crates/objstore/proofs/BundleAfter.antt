-- What each id has once objects came to a store.
use Rattle.std.proofs.Common.{◌≡◌, ◌+◌, ℕ, zero, suc, List, [], ◌∷◌, ◌++◌, map, slice_get, Bool, true, false, cond, Some, None, refl, sym, ap, ◌∙◌, subst, ⊎_elim}
use Rattle.std.proofs.lemmas.Bool.{cond-true, cond-false, or_parts}
use Rattle.std.proofs.lemmas.List.{append-nil}
use Rattle.px_base.specs.Object.{GitObject}
use Rattle.px_base.specs.declared.hash.Hash.{Hash}
use Rattle.objstore.proofs.BoundLemmas.{lookup-both}
use Rattle.objstore.proofs.BundleLemmas.{bundle_fault-both, with_object-alike, with_object-both}
use Rattle.objstore.proofs.Comes.{Comes, Comes-from_no_fault, form_from_no_fault, no_first_fault, no_later_fault}
use Rattle.objstore.proofs.Changed.{ascends-set, object_at-set}
use Rattle.objstore.proofs.EntriesLemmas.{IsStore-more}
use Rattle.objstore.proofs.Ids.{ids_laws, one_id}
use Rattle.objstore.specs.Bundle.{bundle_fault, with_object, with_objects}
use Rattle.objstore.specs.Entries.{Entries, IsStore, is_id, is_among, object_at, object_in, own_name}
use Rattle.objstore.specs.Reach.{Objects, IsClosed}

-- what stands under an id stays when an object comes
kept_one : (store : Entries) (object found : GitObject) (q : Hash) → Comes store object
    → object_at store q ≡ Some found → object_at (with_object store object) q ≡ Some found
kept_one store object found q comes is =
    object_at-set (own_name object) object store q ∙ at (is_id (own_name object) q) refl
  where
    at : (b : Bool) → is_id (own_name object) q ≡ b
        → cond b (Some object) (object_at store q) ≡ Some found
    at false apart = is
    at true here =
        let has : object_at store (own_name object) ≡ Some found =
        subst (λ (p : Hash). object_at store p ≡ Some found)
        (sym (one_id (own_name object) q here)) is in
        ⊎_elim (λ absent. absurd (cc)) (λ present. sym present ∙ has) comes

-- and when a list of them comes
pub kept_all : (store : Entries) (index : ℕ) (objects : List GitObject)
    → bundle_fault store index objects ≡ None → (found : GitObject) (q : Hash)
    → object_at store q ≡ Some found → object_at (with_objects store objects) q ≡ Some found
kept_all store index [] none found q is = is
kept_all store index (object ∷ objects) none found q is =
    kept_all (with_object store object) (index + 1) objects
    (no_later_fault store index object objects none) found q
    (kept_one store object found q
    (Comes-from_no_fault store index object (no_first_fault store index object objects none)) is)

-- each object of the list stands under its name
pub has_each : (store : Entries) (index : ℕ) (objects : List GitObject)
    → bundle_fault store index objects ≡ None → (at : ℕ) (object : GitObject)
    → slice_get objects at ≡ Some object
    → object_at (with_objects store objects) (own_name object) ≡ Some object
has_each store index [] none at object stands = absurd (cc)
has_each store index (first ∷ objects) none zero object stands =
    let same : first ≡ object = cc in
    subst (λ (o : GitObject). object_at (with_objects store (first ∷ objects)) (own_name o) ≡ Some o)
    same
    (kept_all (with_object store first) (index + 1) objects
    (no_later_fault store index first objects none) first (own_name first)
    (object_at-set (own_name first) first store (own_name first)
    ∙ cond-true (is_id (own_name first) (own_name first)) (Some first)
    (object_at store (own_name first)) (ids_laws.refl (own_name first))))
has_each store index (first ∷ objects) none (suc at) object stands =
    has_each (with_object store first) (index + 1) objects
    (no_later_fault store index first objects none) at object stands

-- the store is one
pub IsStore-with_objects : (store : Entries) (index : ℕ) (objects : List GitObject)
    → IsStore store → bundle_fault store index objects ≡ None → IsStore (with_objects store objects)
IsStore-with_objects store index [] is_store none = is_store
IsStore-with_objects store index (object ∷ objects) is_store none =
    IsStore-with_objects (with_object store object) (index + 1) objects
    (IsStore-more store (with_object store object) (own_name object) object
    (object_at-set (own_name object) object store) is_store
    (record {
      name = refl;
      form = form_from_no_fault store index object
          (no_first_fault store index object objects none);
    })
    (ascends-set (own_name object) object store is_store.ordered))
    (no_later_fault store index object objects none)

-- every other id has what it had
pub others_stay : (store : Entries) (objects : List GitObject) (q : Hash)
    → is_among q (map own_name objects) ≡ false
    → object_at (with_objects store objects) q ≡ object_at store q
others_stay store [] q apart = refl
others_stay store (object ∷ objects) q apart =
    let parts = or_parts (is_id q (own_name object)) (is_among q (map own_name objects)) apart in
    others_stay (with_object store object) objects q parts.1
    ∙ object_at-set (own_name object) object store q
    ∙ cond-false (is_id (own_name object) q) (Some object) (object_at store q)
    (ids_laws.symm (own_name object) q ∙ parts.0)

-- stores that have the same under each id have the same with the objects
with_objects-alike : (store other : Entries) (objects : List GitObject)
    → ((q : Hash) → object_at store q ≡ object_at other q) → (q : Hash)
    → object_at (with_objects store objects) q ≡ object_at (with_objects other objects) q
with_objects-alike store other [] alike q = alike q
with_objects-alike store other (object ∷ objects) alike q =
    with_objects-alike (with_object store object) (with_object other object) objects
    (with_object-alike store other object alike) q

-- each id has what the store, or else the objects that came to the other one, have
beside : (store extra : Entries) (index : ℕ) (objects : List GitObject)
    → bundle_fault (store ++ extra) index objects ≡ None → (q : Hash)
    → object_at (with_objects (store ++ extra) objects) q
    ≡ object_in store (with_objects extra objects) q
beside store extra index [] none q = sym (lookup-both store extra q)
beside store extra index (object ∷ objects) none q =
    let first = no_first_fault (store ++ extra) index object objects none in
    with_objects-alike (with_object (store ++ extra) object) (store ++ with_object extra object)
    objects
    (λ p. sym (with_object-both store extra object
    (Comes-from_no_fault (store ++ extra) index object first) p)) q
    ∙ beside store (with_object extra object) (index + 1) objects
    (bundle_fault-both store extra index object objects first ∙ none) q

-- so it has what the store and the objects by themselves have
pub object_at-with_objects : (store : Entries) (index : ℕ) (objects : List GitObject)
    → bundle_fault store index objects ≡ None → (q : Hash)
    → object_at (with_objects store objects) q ≡ object_in store (with_objects [] objects) q
object_at-with_objects store index objects none q =
    ap (λ (s : Entries). object_at (with_objects s objects) q) (sym (append-nil store))
    ∙ beside store [] index objects
    (ap (λ (s : Entries). bundle_fault s index objects) (append-nil store) ∙ none) q

-- and what is closed over both is closed then
pub closed_with : (store : Entries) (index : ℕ) (objects : List GitObject) (tips : List Hash)
    → bundle_fault store index objects ≡ None
    → IsClosed (object_in store (with_objects [] objects)) tips
    → IsClosed (object_at (with_objects store objects)) tips
closed_with store index objects tips none closed =
    let same : (λ (q : Hash). object_at (with_objects store objects) q)
    ≡ (λ (q : Hash). object_in store (with_objects [] objects) q) =
    λ i q. object_at-with_objects store index objects none q i in
    subst (λ (f : Objects). IsClosed f tips) (sym same) closed
