-- A refusal of the layers below is one of the node: the rules never answer want of memory, which is
-- none.
use Rattle.std.proofs.Common.{◌≡◌, ◌+◌, ◌++◌, ◌&&◌, ℕ, List, [], ◌∷◌, length, true, false, cond, Bool, Option, Some, None, refl}
use Rattle.std.specs.Option.{option_map, option_or, is_some}
use Rattle.px_base.specs.Hash.{is_zero, same_hash}
use Rattle.px_base.specs.Object.{GitObject}
use Rattle.px_base.specs.RefList.{References, ref_at}
use Rattle.px_base.specs.declared.hash.Hash.{Hash}
use Rattle.px_base.specs.declared.push.Update.{Update}
use Rattle.object_format.specs.Links.{bad_byte}
use Rattle.objstore.specs.Bundle.{bundle_fault, collision, form_fault, same_object, with_object}
use Rattle.objstore.specs.Entries.{Entries, object_at, own_name}
use Rattle.objstore.specs.declared.bundles.BundleFault.{BundleFault}
use Rattle.objstore.specs.declared.bundles.BundleFault.TheVariants as bundle
use Rattle.refstore.specs.Updates.{after, first_conflict, first_fault, have, is_among, least_conflict, refusal_of, too_many, update_conflict, update_fault}
use Rattle.refstore.specs.declared.prepared.RefRefusal.{RefRefusal}
use Rattle.refstore.specs.declared.prepared.RefRefusal.TheVariants as refs
use Rattle.std.specs.Prelude.{nat_lt}
use Rattle.node_calls.specs.Refusals.{of_bundle, of_updates}

-- ---- objects

-- it is not want of memory
abbrev IsOfBundle : Option BundleFault → Type 0
IsOfBundle None = Unit {0}
IsOfBundle (Some (bundle.BadObject index at)) = Unit {0}
IsOfBundle (Some (bundle.Collision id)) = Unit {0}
IsOfBundle (Some bundle.Memory) = ⊥

either_bundle : (a b : Option BundleFault) → IsOfBundle a → IsOfBundle b
    → IsOfBundle (option_or a b)
either_bundle None b first then_ = then_
either_bundle (Some e) b first then_ = first

of_form : (index : ℕ) (bad : Option ℕ)
    → IsOfBundle (option_map (λ (at : ℕ). bundle.BadObject index at) bad)
of_form index None = tt
of_form index (Some at) = tt

of_collision : (stands : Option GitObject) (object : GitObject)
    → IsOfBundle (collision stands object)
of_collision None object = tt
of_collision (Some other) object = at (same_object other object)
  where
    at : (b : Bool) → IsOfBundle (cond b None (Some (bundle.Collision (own_name object))))
    at true = tt
    at false = tt

of_objects : (store : Entries) (index : ℕ) (objects : List GitObject)
    → IsOfBundle (bundle_fault store index objects)
of_objects store index [] = tt
of_objects store index (object ∷ objects) =
    either_bundle _ _
    (either_bundle (form_fault index object) (collision (object_at store (own_name object)) object)
    (of_form index (bad_byte object.kind object.content))
    (of_collision (object_at store (own_name object)) object))
    (of_objects (with_object store object) (index + 1) objects)

none_of_bundle : (fault : Option BundleFault) → IsOfBundle fault → of_bundle fault ≡ None
    → fault ≡ None
none_of_bundle None is none = refl
none_of_bundle (Some (bundle.BadObject index at)) is none = absurd (cc)
none_of_bundle (Some (bundle.Collision id)) is none = absurd (cc)
none_of_bundle (Some bundle.Memory) is none = absurd is

-- where the node does not refuse the objects, they may come
pub objects_come : (store : Entries) (objects : List GitObject)
    → of_bundle (bundle_fault store 0 objects) ≡ None → bundle_fault store 0 objects ≡ None
objects_come store objects none =
    none_of_bundle (bundle_fault store 0 objects) (of_objects store 0 objects) none

-- ---- updates

abbrev IsOfUpdates : Option RefRefusal → Type 0
IsOfUpdates None = Unit {0}
IsOfUpdates (Some refs.Empty) = Unit {0}
IsOfUpdates (Some (refs.Void name)) = Unit {0}
IsOfUpdates (Some (refs.Twice name)) = Unit {0}
IsOfUpdates (Some (refs.Stale name had)) = Unit {0}
IsOfUpdates (Some (refs.Conflict name other)) = Unit {0}
IsOfUpdates (Some refs.TooManyRefs) = Unit {0}
IsOfUpdates (Some refs.Memory) = ⊥

either_updates : (a b : Option RefRefusal) → IsOfUpdates a → IsOfUpdates b
    → IsOfUpdates (option_or a b)
either_updates None b first then_ = then_
either_updates (Some e) b first then_ = first

of_choice : (void twice same : Bool) (name : List ℕ) (had : Hash)
    → IsOfUpdates (cond void (Some (refs.Void name)) (cond twice (Some (refs.Twice name))
    (cond same None (Some (refs.Stale name had)))))
of_choice true twice same name had = tt
of_choice false true same name had = tt
of_choice false false true name had = tt
of_choice false false false name had = tt

of_faults : (there : References) (before : List (List ℕ)) (updates : List Update)
    → IsOfUpdates (first_fault there before updates)
of_faults there before [] = tt
of_faults there before (update ∷ updates) =
    either_updates (update_fault there before update) _
    (of_choice (is_zero update.old && is_zero update.new) (is_among update.name before)
    (same_hash (have there update.name) update.old) update.name (have there update.name))
    (of_faults there (before ++ update.name ∷ []) updates)

of_least : (b : Bool) (name : List ℕ) (least : Option (List ℕ))
    → IsOfUpdates (cond b (option_map (refs.Conflict name) least) None)
of_least true name None = tt
of_least true name (Some other) = tt
of_least false name least = tt

of_conflicts : (done : References) (updates : List Update)
    → IsOfUpdates (first_conflict done updates)
of_conflicts done [] = tt
of_conflicts done (update ∷ updates) =
    either_updates (update_conflict done update) _
    (of_least (is_some (ref_at done update.name)) update.name (least_conflict done update.name))
    (of_conflicts done updates)

of_many : (b : Bool) → IsOfUpdates (cond b (Some refs.TooManyRefs) None)
of_many true = tt
of_many false = tt

of_list : (there : References) (updates : List Update) → IsOfUpdates (refusal_of there updates)
of_list there [] = tt
of_list there (update ∷ updates) =
    let done = after there (update ∷ updates) in
    either_updates (first_fault there [] (update ∷ updates)) _
    (of_faults there [] (update ∷ updates))
    (either_updates (first_conflict done (update ∷ updates)) (too_many done)
    (of_conflicts done (update ∷ updates)) (of_many (nat_lt 32768 (length done))))

none_of_updates : (refusal : Option RefRefusal) → IsOfUpdates refusal → of_updates refusal ≡ None
    → refusal ≡ None
none_of_updates None is none = refl
none_of_updates (Some refs.Empty) is none = absurd (cc)
none_of_updates (Some (refs.Void name)) is none = absurd (cc)
none_of_updates (Some (refs.Twice name)) is none = absurd (cc)
none_of_updates (Some (refs.Stale name had)) is none = absurd (cc)
none_of_updates (Some (refs.Conflict name other)) is none = absurd (cc)
none_of_updates (Some refs.TooManyRefs) is none = absurd (cc)
none_of_updates (Some refs.Memory) is none = absurd is

-- where the node does not refuse the updates, they may be done
pub updates_fit : (there : References) (updates : List Update)
    → of_updates (refusal_of there updates) ≡ None → refusal_of there updates ≡ None
updates_fit there updates none =
    none_of_updates (refusal_of there updates) (of_list there updates) none
