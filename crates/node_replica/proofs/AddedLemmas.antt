-- A store to which an object was added that it did not have.
use Rattle.std.proofs.Common.{◌≡◌, true, false, cond, Bool, Some, refl, sym, ap, ◌∙◌, subst}
use Rattle.px_base.proofs.HashOrder.{one_by_order}
use Rattle.px_base.specs.Object.{GitObject}
use Rattle.px_base.specs.declared.hash.Hash.{Hash}
use Rattle.objstore.proofs.Changed.{ascends-set, object_at-set, one_store}
use Rattle.objstore.proofs.Ids.{ids_laws}
use Rattle.objstore.specs.Bundle.{with_object}
use Rattle.objstore.specs.Entries.{Entries, IsStore, is_id, object_at, own_name}
use Rattle.objstore.specs.Put.{AddsObject}

-- it is the store with the object under its name
pub added_is : (old new : Entries) (object : GitObject) → IsStore old → IsStore new
    → AddsObject old new (own_name object) object → new ≡ with_object old object
added_is old new object was is adds =
    one_store new (with_object old object) is.ordered
    (ascends-set (own_name object) object old was.ordered)
    (λ q. at q (is_id (own_name object) q) refl ∙ sym (object_at-set (own_name object) object old q))
  where
    at : (q : Hash) (b : Bool) → is_id (own_name object) q ≡ b
        → object_at new q ≡ cond b (Some object) (object_at old q)
    at q true here =
        subst (λ (h : Hash). object_at new h ≡ Some object)
        (one_by_order (own_name object) q here) adds.has
    at q false there = adds.others q (λ same. absurd (
        let t : is_id (own_name object) q ≡ true =
        ap (is_id (own_name object)) same ∙ ids_laws.refl (own_name object) in
        cc))
