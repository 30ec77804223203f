-- A store to which objects came, and the faults of those that come later.
use Rattle.std.proofs.Common.{◌≡◌, ◌+◌, ◌⊎◌, ℕ, List, [], ◌∷◌, ◌++◌, Bool, true, false, cond, Option, Some, None, refl, sym, ap, ◌∙◌, subst, ⊎_elim}
use Rattle.std.specs.Option.{option_or}
use Rattle.px_base.specs.Object.{GitObject}
use Rattle.px_base.specs.declared.hash.Hash.{Hash}
use Rattle.objstore.proofs.BoundLemmas.{lookup-both}
use Rattle.objstore.proofs.Changed.{Ascends, one_store, ascends-set, object_at-set}
use Rattle.objstore.proofs.Ids.{one_id}
use Rattle.objstore.specs.Bundle.{bundle_fault, collision, form_fault, object_fault, with_object}
use Rattle.objstore.specs.Entries.{Entries, is_id, object_at, own_name}
use Rattle.objstore.specs.declared.bundles.BundleFault.{BundleFault}
use Rattle.objstore.proofs.Comes.{Comes, Comes-from_no_fault}

-- where the store has the object already, each id has what it had
pub present_stays : (store : Entries) (object : GitObject)
    → object_at store (own_name object) ≡ Some object → (q : Hash)
    → object_at (with_object store object) q ≡ object_at store q
present_stays store object present q =
    object_at-set (own_name object) object store q
    ∙ at (is_id (own_name object) q) refl
  where
    at : (b : Bool) → is_id (own_name object) q ≡ b
        → cond b (Some object) (object_at store q) ≡ object_at store q
    at true here =
        sym (subst (λ (p : Hash). object_at store p ≡ Some object) (one_id (own_name object) q here)
        present)
    at false apart = refl

-- so the store stays
pub with_object-present : (store : Entries) (object : GitObject) → Ascends store
    → object_at store (own_name object) ≡ Some object → with_object store object ≡ store
with_object-present store object ascends present =
    one_store (with_object store object) store (ascends-set (own_name object) object store ascends)
    ascends (present_stays store object present)

-- stores that have the same under each id have the same with the object
pub with_object-alike : (store other : Entries) (object : GitObject)
    → ((q : Hash) → object_at store q ≡ object_at other q) → (q : Hash)
    → object_at (with_object store object) q ≡ object_at (with_object other object) q
with_object-alike store other object alike q =
    object_at-set (own_name object) object store q
    ∙ ap (cond (is_id (own_name object) q) (Some object)) (alike q)
    ∙ sym (object_at-set (own_name object) object other q)

-- and the same faults
pub bundle_fault-alike : (store other : Entries) (index : ℕ) (objects : List GitObject)
    → ((q : Hash) → object_at store q ≡ object_at other q)
    → bundle_fault store index objects ≡ bundle_fault other index objects
bundle_fault-alike store other index [] alike = refl
bundle_fault-alike store other index (object ∷ objects) alike =
    ap (λ (found : Option GitObject).
    option_or (option_or (form_fault index object) (collision found object))
    (bundle_fault (with_object store object) (index + 1) objects)) (alike (own_name object))
    ∙ ap (option_or (object_fault other index object))
    (bundle_fault-alike (with_object store object) (with_object other object) (index + 1) objects
    (with_object-alike store other object alike))

-- an object that comes to both stores may come to the second one
pub with_object-both : (store extra : Entries) (object : GitObject) → Comes (store ++ extra) object
    → (q : Hash) → object_at (store ++ with_object extra object) q
    ≡ object_at (with_object (store ++ extra) object) q
with_object-both store extra object comes q =
    sym (lookup-both store (with_object extra object) q)
    ∙ ap (option_or (object_at store q)) (object_at-set (own_name object) object extra q)
    ∙ at (is_id (own_name object) q) (object_at store q)
    (λ here. subst (λ (found : Option GitObject). (found ≡ None) ⊎ (found ≡ Some object))
    (sym (lookup-both store extra q))
    (subst (λ (p : Hash). (object_at (store ++ extra) p ≡ None)
    ⊎ (object_at (store ++ extra) p ≡ Some object)) (one_id (own_name object) q here) comes))
    ∙ ap (cond (is_id (own_name object) q) (Some object)) (lookup-both store extra q)
    ∙ sym (object_at-set (own_name object) object (store ++ extra) q)
  where
    at : (b : Bool) (first : Option GitObject)
        → (b ≡ true → (option_or first (object_at extra q) ≡ None)
        ⊎ (option_or first (object_at extra q) ≡ Some object))
        → option_or first (cond b (Some object) (object_at extra q))
        ≡ cond b (Some object) (option_or first (object_at extra q))
    at false first comes = refl
    at true None comes = refl
    at true (Some found) comes = ⊎_elim (λ none. absurd (cc)) (λ same. same) (comes refl)

-- so the faults of the later objects are those beside both
pub bundle_fault-both : (store extra : Entries) (index : ℕ) (object : GitObject)
    (objects : List GitObject) → object_fault (store ++ extra) index object ≡ None
    → bundle_fault (store ++ with_object extra object) (index + 1) objects
    ≡ bundle_fault (store ++ extra) index (object ∷ objects)
bundle_fault-both store extra index object objects none =
    bundle_fault-alike (store ++ with_object extra object) (with_object (store ++ extra) object)
    (index + 1) objects
    (with_object-both store extra object (Comes-from_no_fault (store ++ extra) index object none))
    ∙ ap (λ (fault : Option BundleFault). option_or fault
    (bundle_fault (with_object (store ++ extra) object) (index + 1) objects)) (sym none)
