-- The rows of objects: what the changes of an effect say of them, and which they name.
use Rattle.std.proofs.Common.{◌≡◌, ◌||◌, ℕ, zero, suc, slice_get, List, [], ◌∷◌, map, true, false, cond, Bool, Option, Some, None, refl, sym, ap, ◌∙◌, ◌⊎◌, ⊎_elim, inl, inr}
use Rattle.std.specs.List.{AllByRecursion}
use Rattle.std.specs.Map.{keys_of}
use Rattle.std.specs.Option.{IsSome, is_some}
use Rattle.std.proofs.lemmas.Bool.{cases_Bool}
use Rattle.px_base.proofs.HashOrder.{one_by_order}
use Rattle.px_base.specs.Object.{GitObject}
use Rattle.px_base.specs.RepoPath.{IsRepoPath}
use Rattle.px_base.specs.declared.hash.Hash.{Hash}
use Rattle.objstore.proofs.BundleAfter.{has_each, kept_all, others_stay}
use Rattle.objstore.specs.Bundle.{bundle_fault, with_objects}
use Rattle.objstore.specs.Entries.{Entries, is_among, is_id, object_at, own_name}
use Rattle.px_keeper.specs.Change.{Names}
use Rattle.px_keeper.specs.Row.{row_key}
use Rattle.node_rows.proofs.RowLemmas.{Says, Says-gone, Says-object}
use Rattle.node_calls.specs.ReplicaState.{NodeState}
use Rattle.node_rows.specs.Rows.{under}
use Rattle.node_rows.specs.Writes.{coming_changes, object_change, objects_gone}

module _ (path : List ℕ) where
  -- ---- objects come

  -- one that was not there is named
  coming_named : (store : Entries) (objects : List GitObject) (id : Hash)
      → object_at store id ≡ None → is_among id (map own_name objects) ≡ true
      → Names (coming_changes path store objects) (row_key 8 (under path id.0))
  coming_named store [] id absent among = absurd (cc)
  coming_named store (object ∷ objects) id absent among =
      at (is_id id (own_name object)) refl (is_some (object_at store (own_name object))) refl among
      (coming_named store objects id absent)
    where
      at : (b : Bool) → is_id id (own_name object) ≡ b → (c : Bool)
          → is_some (object_at store (own_name object)) ≡ c
          → (b || is_among id (map own_name objects)) ≡ true
          → (is_among id (map own_name objects) ≡ true
          → Names (coming_changes path store objects) (row_key 8 (under path id.0)))
          → Names (cond c (coming_changes path store objects)
          (object_change path object ∷ coming_changes path store objects))
          (row_key 8 (under path id.0))
      at true here true there among rest = absurd (
          let still : is_some (object_at store id) ≡ true =
          ap (λ (q : Hash). is_some (object_at store q)) (one_by_order id (own_name object) here)
          ∙ there in
          let not_there : is_some (object_at store id) ≡ false = ap is_some absent in
          cc)
      at true here false comes among rest =
          inl (ap (λ (q : Hash). row_key 8 (under path q.0))
          (sym (one_by_order id (own_name object) here)))
      at false other true there among rest = rest among
      at false other false comes among rest = inr (rest among)

  -- so each id is named, or has what it had
  pub coming_name : (store : Entries) (index : ℕ) (objects : List GitObject)
      → bundle_fault store index objects ≡ None → (id : Hash)
      → Names (coming_changes path store objects) (row_key 8 (under path id.0))
      ⊎ (object_at (with_objects store objects) id ≡ object_at store id)
  coming_name store index objects none id = at (object_at store id) refl
    where
      at : (o : Option GitObject) → object_at store id ≡ o
          → Names (coming_changes path store objects) (row_key 8 (under path id.0))
          ⊎ (object_at (with_objects store objects) id ≡ object_at store id)
      at (Some found) has = inr (kept_all store index objects none found id has ∙ sym has)
      at None absent = ⊎_elim (λ among. inl (coming_named store objects id absent among))
          (λ apart. inr (others_stay store objects id apart))
          (cases_Bool (is_among id (map own_name objects)))

  -- ---- all objects go

  gone_named : (store : Entries) (id : Hash) → IsSome (object_at store id)
      → Names (objects_gone path (keys_of store)) (row_key 8 (under path id.0))
  gone_named [] id there = absurd (cc)
  gone_named (entry ∷ store) id there =
      at (is_id id entry.0) refl there (gone_named store id)
    where
      at : (b : Bool) → is_id id entry.0 ≡ b → IsSome (cond b (Some entry.1) (object_at store id))
          → (IsSome (object_at store id)
          → Names (objects_gone path (keys_of store)) (row_key 8 (under path id.0)))
          → Names (objects_gone path (entry.0 ∷ keys_of store)) (row_key 8 (under path id.0))
      at true here there rest =
          inl (ap (λ (q : Hash). row_key 8 (under path q.0)) (sym (one_by_order id entry.0 here)))
      at false other there rest = inr (rest there)

  pub gone_name : (store : Entries) (id : Hash)
      → Names (objects_gone path (keys_of store)) (row_key 8 (under path id.0))
      ⊎ (object_at [] id ≡ object_at store id)
  gone_name store id = at (object_at store id) refl
    where
      at : (o : Option GitObject) → object_at store id ≡ o
          → Names (objects_gone path (keys_of store)) (row_key 8 (under path id.0))
          ⊎ (object_at [] id ≡ object_at store id)
      at None absent = inr (sym absent)
      at (Some found) has = inl (gone_named store id (ap is_some has))

-- ---- what the changes say

module _ (node : NodeState) (path : List ℕ) (lawful : IsRepoPath path) where
  coming_each : (store : Entries) (objects : List GitObject)
      → ((at : ℕ) (object : GitObject) → slice_get objects at ≡ Some object
      → object_at (node path).objects (own_name object) ≡ Some object)
      → AllByRecursion (Says node) (coming_changes path store objects)
  coming_each store [] has = tt
  coming_each store (object ∷ objects) has =
      at (is_some (object_at store (own_name object)))
      (coming_each store objects (λ i o is. has (suc i) o is))
    where
      at : (b : Bool) → AllByRecursion (Says node) (coming_changes path store objects)
          → AllByRecursion (Says node) (cond b (coming_changes path store objects)
          (object_change path object ∷ coming_changes path store objects))
      at true rest = rest
      at false rest = (Says-object node path lawful object (has zero object refl), rest)

  pub coming_say : (store : Entries) (index : ℕ) (objects : List GitObject)
      → bundle_fault store index objects ≡ None
      → (node path).objects ≡ with_objects store objects
      → AllByRecursion (Says node) (coming_changes path store objects)
  coming_say store index objects none is =
      coming_each store objects (λ at object stands.
      ap (λ (s : Entries). object_at s (own_name object)) is
      ∙ has_each store index objects none at object stands)

  pub gone_say : (ids : List Hash) → (node path).objects ≡ []
      → AllByRecursion (Says node) (objects_gone path ids)
  gone_say [] is = tt
  gone_say (id ∷ ids) is = (
    Says-gone node path lawful id (ap (λ (s : Entries). object_at s id) is),
    gone_say ids is,
  )
