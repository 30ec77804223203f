-- Objects that wait apart from a store, and are moved into the room that was made for them.
use Rattle.std.proofs.Common.{◌≡◌, ◌++◌, ◌⊎◌, ℕ, zero, suc, List, [], ◌∷◌, map, slice_get, Bool, true, false, cond, Option, Some, None, refl, sym, ap, ◌∙◌, subst, inl, inr, ⊎_elim}
use Rattle.std.proofs.lemmas.Bool.{cases_Bool, cond-true, cond-false, false≢true, or_cases, or_left, or_parts, or_right}
use Rattle.std.proofs.lemmas.List.Folds.{list_any-append}
use Rattle.std.specs.BTreeMap.{insert_entry}
use Rattle.std.specs.List.{AllByRecursion, filter_map}
use Rattle.std.specs.List.Sorted.{IsStrictlySortedBy}
use Rattle.std.specs.Map.{keys_of}
use Rattle.std.specs.Option.{is_some, option_or}
use Rattle.std.specs.Prelude.{OnErr, OnOk, Result, Ok, Err}
use Rattle.std.specs.declared.cmp.Ordering.TheVariants.{Less}
use Rattle.px_base.specs.Hash.{hash_cmp}
use Rattle.px_base.specs.Object.{GitObject, IsSmall}
use Rattle.px_base.specs.declared.hash.Hash.{Hash}
use Rattle.objstore.proofs.BundleAfter.{IsStore-with_objects, has_each, object_at-with_objects, others_stay}
use Rattle.objstore.proofs.Changed.{Ascends, one_store, object_at-set}
use Rattle.objstore.proofs.Comes.{none_where_not_some}
use Rattle.objstore.proofs.Ids.{ids_laws, one_id}
use Rattle.objstore.proofs.TakenBack.{ascends-with_objects, undo_more}
use Rattle.objstore.specs.Bundle.{bundle_fault, with_object, with_objects, without}
use Rattle.objstore.specs.Entries.{AreSmall, Entries, IsStore, is_id, is_among, object_at, object_in, own_name}
use Rattle.objstore.specs.ObjectMap.{HasRoom, IsRoomFor}
use Rattle.objstore.specs.Quarantine.{AreKept, objects_of}

-- ---- what objects by themselves have, a store with them has

-- each object that the one has under an id the other has there
abbrev IsWithin : Entries → Entries → Type 0
IsWithin extra store = (q : Hash) (found : GitObject) → object_at extra q ≡ Some found
    → object_at store q ≡ Some found

-- so it is once an object came to both
within_one : (extra store : Entries) (object : GitObject) → IsWithin extra store
    → IsWithin (with_object extra object) (with_object store object)
within_one extra store object within q found is =
    object_at-set (own_name object) object store q
    ∙ at (is_id (own_name object) q)
    (sym (object_at-set (own_name object) object extra q) ∙ is)
  where
    at : (b : Bool) → cond b (Some object) (object_at extra q) ≡ Some found
        → cond b (Some object) (object_at store q) ≡ Some found
    at true same = same
    at false there = within q found there

-- and once a list of them did
within_all : (extra store : Entries) (objects : List GitObject) → IsWithin extra store
    → IsWithin (with_objects extra objects) (with_objects store objects)
within_all extra store [] within = within
within_all extra store (object ∷ objects) within =
    within_all (with_object extra object) (with_object store object) objects
    (within_one extra store object within)

-- what has an object has one when others come
stays_there : (store : Entries) (objects : List GitObject) (q : Hash)
    → is_some (object_at store q) ≡ true → is_some (object_at (with_objects store objects) q) ≡ true
stays_there store [] q some = some
stays_there store (object ∷ objects) q some =
    stays_there (with_object store object) objects q
    (ap is_some (object_at-set (own_name object) object store q) ∙ at (is_id (own_name object) q))
  where
    at : (b : Bool) → is_some (cond b (Some object) (object_at store q)) ≡ true
    at true = refl
    at false = some

-- each name of a list that comes has an object
named_there : (store : Entries) (objects : List GitObject) (q : Hash)
    → is_among q (map own_name objects) ≡ true
    → is_some (object_at (with_objects store objects) q) ≡ true
named_there store [] q among = absurd (cc)
named_there store (object ∷ objects) q among =
    ⊎_elim
    (λ here. stays_there (with_object store object) objects q
    (ap is_some (object_at-set (own_name object) object store q
    ∙ cond-true (is_id (own_name object) q) (Some object) (object_at store q)
    (ids_laws.symm (own_name object) q ∙ here))))
    (λ later. named_there (with_object store object) objects q later)
    (or_cases (is_id q (own_name object)) (is_among q (map own_name objects)) among)

-- and by themselves they have no other
only_named : (objects : List GitObject) (q : Hash)
    → is_some (object_at (with_objects [] objects) q) ≡ true
    → is_among q (map own_name objects) ≡ true
only_named objects q some = at (is_among q (map own_name objects)) refl
  where
    at : (b : Bool) → is_among q (map own_name objects) ≡ b
        → is_among q (map own_name objects) ≡ true
    at true is = is
    at false is =
        absurd (false≢true (ap is_some (sym (others_stay [] objects q is)) ∙ some))

-- ---- what is kept apart is the list that came

-- the name of what stands in a list is among the names
named_at : (objects : List GitObject) (at : ℕ) (object : GitObject)
    → slice_get objects at ≡ Some object
    → is_among (own_name object) (map own_name objects) ≡ true
named_at [] at object is = absurd (cc)
named_at (first ∷ objects) zero object is =
    let same : first ≡ object = cc in
    or_left _ _ (ap (is_id (own_name object)) (ap own_name same) ∙ ids_laws.refl (own_name object))
named_at (first ∷ objects) (suc at) object is = or_right _ _ (named_at objects at object is)

-- where the objects may come to some store, each has its own place among them
kept_found : (store : Entries) (objects : List GitObject) → bundle_fault store 0 objects ≡ None
    → (at : ℕ) (object : GitObject) → slice_get objects at ≡ Some object
    → object_at (with_objects [] objects) (own_name object) ≡ Some object
kept_found store objects none at object stands =
    found (object_at (with_objects [] objects) (own_name object)) refl
    (named_there [] objects (own_name object) (named_at objects at object stands))
  where
    found : (have : Option GitObject)
        → object_at (with_objects [] objects) (own_name object) ≡ have
        → is_some (object_at (with_objects [] objects) (own_name object)) ≡ true
        → object_at (with_objects [] objects) (own_name object) ≡ Some object
    found None is some = absurd (false≢true (ap is_some (sym is) ∙ some))
    found (Some other) is some =
        is ∙ sym (within_all [] store objects (λ q o no. absurd (cc)) (own_name object) other is)
        ∙ has_each store 0 objects none at object stands

-- objects that are each found under their names are read back by these
read_back : (find : Hash → Option GitObject) (objects : List GitObject)
    → ((at : ℕ) (object : GitObject) → slice_get objects at ≡ Some object
    → find (own_name object) ≡ Some object)
    → filter_map find (map own_name objects) ≡ objects
read_back find [] found = refl
read_back find (object ∷ objects) found =
    rw (found zero object refl)
    (ap (λ (rest : List GitObject). object ∷ rest)
    (read_back find objects (λ at o is. found (suc at) o is)))

module _ (store : Entries) (ids : List Hash) (extra : Entries) (objects : List GitObject)
    (none : bundle_fault store 0 objects ≡ None) (names : ids ≡ map own_name objects)
    (only : extra ≡ with_objects [] objects)
  where
    -- each is found
    came_found : (at : ℕ) (object : GitObject) → slice_get objects at ≡ Some object
        → object_at extra (own_name object) ≡ Some object
    came_found at object stands =
        ap (λ (s : Entries). object_at s (own_name object)) only
        ∙ kept_found store objects none at object stands

    -- so they are the list
    pub came_back : objects_of ids extra ≡ objects
    came_back =
        ap (objects_of' extra) names ∙ read_back (object_at extra) objects came_found
      where
        objects_of' : Entries → List Hash → List GitObject
        objects_of' s names = objects_of names s

    -- and they are kept
    pub AreKept-came : AreKept ids extra (objects_of ids extra)
    AreKept-came =
        subst (AreKept ids extra) (sym came_back)
        (record { names = names; only = only; found = came_found })

-- ---- room

-- a map has room for no ids
pub HasRoom-none : (map : Entries) → HasRoom map map []
HasRoom-none map = record { others = λ q apart. refl; room = λ q among. absurd (cc) }

-- a map has room for one id more
pub HasRoom-more : (store was map : Entries) (ids : List Hash) (id : Hash) → HasRoom store was ids
    → HasRoom was map (id ∷ []) → HasRoom store map (ids ++ id ∷ [])
HasRoom-more store was map ids id so_far one = record {
  others = λ q apart.
      let parts = or_parts (is_among q ids) (is_among q (id ∷ []))
      (sym (list_any-append (is_id q) ids (id ∷ [])) ∙ apart) in
      one.others q parts.1 ∙ so_far.others q parts.0;
  room = λ q among. at q (cases_Bool (is_among q (id ∷ [])))
      (or_cases (is_among q ids) (is_among q (id ∷ []))
      (sym (list_any-append (is_id q) ids (id ∷ [])) ∙ among));
}
  where
    at : (q : Hash) → (is_among q (id ∷ []) ≡ true) ⊎ (is_among q (id ∷ []) ≡ false)
        → (is_among q ids ≡ true) ⊎ (is_among q (id ∷ []) ≡ true)
        → is_some (object_at map q) ≡ true
    at q (inl here) either = one.room q here
    at q (inr apart) (inl before) = ap is_some (one.others q apart) ∙ so_far.room q before
    at q (inr apart) (inr here) = one.room q here

-- an id that has something needs none
pub HasRoom-present : (map : Entries) (id : Hash) → is_some (object_at map id) ≡ true
    → HasRoom map map (id ∷ [])
HasRoom-present map id some = record {
  others = λ q apart. refl;
  room = λ q among. subst (λ (p : Hash). is_some (object_at map p) ≡ true)
      (sym (one_id q id (here q among))) some;
}
  where
    here : (q : Hash) → is_among q (id ∷ []) ≡ true → is_id q id ≡ true
    here q among = ⊎_elim (λ t. t) (λ no. absurd (false≢true no)) (or_cases (is_id q id) false among)

-- an object that was put under it makes it
pub HasRoom-made : (map : Entries) (id : Hash) (object : GitObject)
    → HasRoom map (insert_entry hash_cmp map id object) (id ∷ [])
HasRoom-made map id object = record {
  others = λ q apart. object_at-set id object map q
      ∙ cond-false (is_id id q) (Some object) (object_at map q)
      (ids_laws.symm id q ∙ (or_parts (is_id q id) false apart).0);
  room = λ q among. ap is_some (object_at-set id object map q
      ∙ cond-true (is_id id q) (Some object) (object_at map q)
      (ids_laws.symm id q ∙ here q among));
}
  where
    here : (q : Hash) → is_among q (id ∷ []) ≡ true → is_id q id ≡ true
    here q among = ⊎_elim (λ t. t) (λ no. absurd (false≢true no)) (or_cases (is_id q id) false among)

-- what was put under an id that had nothing is taken away with the others
pub put_back : (map now put was : Entries) (ids : List Hash) (id : Hash) (object : GitObject)
    (has : Bool) → map ≡ now → Ascends map → has ≡ is_some (object_at map id) → has ≡ false
    → put ≡ insert_entry hash_cmp map id object → without now ids ≡ was
    → without put (ids ++ id ∷ []) ≡ was
put_back map now put was ids id object has same ascends has_is none is back =
    ap (λ (s : Entries). without s (ids ++ id ∷ [])) is
    ∙ undo_more map was ids id object ascends
    (ap (λ (s : Entries). without s ids) same ∙ back)
    (none_where_not_some (object_at map id) (sym has_is ∙ none))

-- ---- objects are moved in, one after the other

-- an object is set where something stands
pub set_where_some : {A E : Type 0} → (result : Result A E) (old new : Entries) (id : Hash)
    (object : GitObject) → OnOk result (new ≡ insert_entry hash_cmp old id object)
    → OnErr result (object_at old id ≡ None) → is_some (object_at old id) ≡ true
    → new ≡ insert_entry hash_cmp old id object
set_where_some (Ok a) old new id object set absent some = set
set_where_some (Err e) old new id object set absent some =
    absurd (false≢true (ap is_some (sym absent) ∙ some))

-- what is left, or else the map, has under each id what all, or else the map before, had; there is room
-- for what is left, whose ids ascend
pub record IsMoving (all before rest map : Entries) : Type 0 where
  pub same : (q : Hash) → object_in rest map q ≡ object_in all before q
  pub room : (q : Hash) → is_some (object_at rest q) ≡ true → is_some (object_at map q) ≡ true
  pub ordered : Ascends rest

-- an id below all others is not among them
absent_below : (id : Hash) (rest : Entries)
    → AllByRecursion (λ (p : Hash). hash_cmp id p ≡ Less) (keys_of rest)
    → object_at rest id ≡ None
absent_below id [] all = refl
absent_below id (e ∷ rest) all = rw all.0 (absent_below id rest all.1)

-- there is room for the first that is left
pub moving_room : (all before rest map : Entries) (id : Hash) (object : GitObject)
    → IsMoving all before ((id, object) ∷ rest) map → is_some (object_at map id) ≡ true
moving_room all before rest map id object moving =
    moving.room id (ap is_some
    (cond-true (is_id id id) (Some object) (object_at rest id) (ids_laws.refl id)))

-- one is moved
pub moved_one : (all before rest map : Entries) (id : Hash) (object : GitObject)
    → IsMoving all before ((id, object) ∷ rest) map
    → IsMoving all before rest (insert_entry hash_cmp map id object)
unfolding IsStrictlySortedBy
moved_one all before rest map id object moving = record {
  same = λ q.
      ap (option_or (object_at rest q)) (object_at-set id object map q)
      ∙ at q (is_id q id) refl
      ∙ moving.same q;
  room = λ q some.
      ap is_some (object_at-set id object map q)
      ∙ still q (is_id id q) (moving.room q (before_it q (is_id q id) some));
  ordered = moving.ordered.1;
}
  where
    at : (q : Hash) (b : Bool) → is_id q id ≡ b
        → option_or (object_at rest q) (cond (is_id id q) (Some object) (object_at map q))
        ≡ option_or (cond (is_id q id) (Some object) (object_at rest q)) (object_at map q)
    at q true here =
        let absent : object_at rest q ≡ None =
        subst (λ (p : Hash). object_at rest p ≡ None) (sym (one_id q id here))
        (absent_below id rest moving.ordered.0) in
        rw (here, ids_laws.symm id q ∙ here, absent) refl
    at q false apart = rw (apart, ids_laws.symm id q ∙ apart) refl

    before_it : (q : Hash) (b : Bool) → is_some (object_at rest q) ≡ true
        → is_some (cond b (Some object) (object_at rest q)) ≡ true
    before_it q true some = refl
    before_it q false some = some

    still : (q : Hash) (b : Bool) → is_some (object_at map q) ≡ true
        → is_some (cond b (Some object) (object_at map q)) ≡ true
    still q true some = refl
    still q false some = some

-- where there is room for their names, none is moved yet
pub IsMoving-first : (before : Entries) (objects : List GitObject)
    → IsRoomFor before (map own_name objects)
    → IsMoving (with_objects [] objects) before (with_objects [] objects) before
unfolding IsStrictlySortedBy
IsMoving-first before objects room = record {
  same = λ q. refl;
  room = λ q some. room q (only_named objects q some);
  ordered = ascends-with_objects [] objects tt;
}

-- once all are moved, the map is the store with them
pub moved_all : (store before then_ all rest : Entries) (objects : List GitObject)
    → all ≡ with_objects [] objects → rest ≡ [] → Ascends then_ → IsMoving all before rest then_
    → IsStore store → HasRoom store before (map own_name objects)
    → then_ ≡ with_objects store objects
moved_all store before then_ all rest objects is_all none_left ascends moving is_store room =
    one_store then_ (with_objects store objects) ascends
    (ascends-with_objects store objects is_store.ordered)
    (λ q. moved.same q ∙ at q (object_at (with_objects [] objects) q) refl)
  where
    moved : IsMoving (with_objects [] objects) before [] then_
    moved =
        subst (λ (s : Entries). IsMoving s before [] then_) is_all
        (subst (λ (s : Entries). IsMoving all before s then_) none_left moving)

    apart : (q : Hash) → object_at (with_objects [] objects) q ≡ None
        → (b : Bool) → is_among q (map own_name objects) ≡ b
        → is_among q (map own_name objects) ≡ false
    apart q none false is = is
    apart q none true is =
        absurd (false≢true (ap is_some (sym none) ∙ named_there [] objects q is))

    at : (q : Hash) (have : Option GitObject) → object_at (with_objects [] objects) q ≡ have
        → object_in (with_objects [] objects) before q ≡ object_at (with_objects store objects) q
    at q (Some found) has =
        ap (λ (o : Option GitObject). option_or o (object_at before q)) has
        ∙ sym (within_all [] store objects (λ p o no. absurd (cc)) q found has)
    at q None none =
        let not_named = apart q none (is_among q (map own_name objects)) refl in
        ap (λ (o : Option GitObject). option_or o (object_at before q)) none
        ∙ room.others q not_named ∙ sym (others_stay store objects q not_named)

-- and where they may come, that is a store of small objects
pub moved_store : (store then_ : Entries) (objects : List GitObject)
    → then_ ≡ with_objects store objects → IsStore store → AreSmall store
    → bundle_fault store 0 objects ≡ None → AreSmall (with_objects [] objects)
    → IsStore then_ × AreSmall then_
moved_store store then_ objects is is_store small none also =
    subst (λ (s : Entries). IsStore s × AreSmall s) (sym is) (
      IsStore-with_objects store 0 objects is_store none,
      λ id object there. at id object (object_at store id) refl
          (sym (object_at-with_objects store 0 objects none id) ∙ there),
    )
  where
    at : (id : Hash) (object : GitObject) (have : Option GitObject) → object_at store id ≡ have
        → object_in store (with_objects [] objects) id ≡ Some object → IsSmall object.content
    at id object (Some other) has found =
        small id object (has ∙ ap (λ (o : Option GitObject).
        option_or o (object_at (with_objects [] objects) id)) (sym has) ∙ found)
    at id object None absent found =
        also id object (ap (λ (o : Option GitObject).
        option_or o (object_at (with_objects [] objects) id)) (sym absent) ∙ found)
