-- A store in which an object is set or taken away: its order, and what each id has then.
use Rattle.std.proofs.Common.{◌≡◌, ◌||◌, ◌&&◌, T, List, [], ◌∷◌, Bool, true, false, cond, Option, Some, None, refl, sym, ap, ◌∙◌}
use Rattle.std.specs.BTreeMap.{insert_entry, is_at}
use Rattle.std.specs.FinMap.Entries.{below_all, find, is_sorted, same_entries}
use Rattle.std.specs.List.{AllByRecursion}
use Rattle.std.specs.List.Sorted.{IsStrictlySortedBy}
use Rattle.std.specs.Map.{keys_of, lookup}
use Rattle.std.specs.Ordering.{is_eq, match_ordering, ordering_reverse}
use Rattle.std.specs.declared.cmp.Ordering.{Ordering}
use Rattle.std.specs.declared.cmp.Ordering.TheVariants.{Less, Equal, Greater}
use Rattle.std.proofs.lemmas.Map.{lookup-remove_entry}
use Rattle.std.proofs.lemmas.Map.Keys.{IsDistinct-from_sorted}
use Rattle.px_base.proofs.HashOrder.{hash_cmp_total, one_by_order}
use Rattle.px_base.specs.Hash.{hash_cmp}
use Rattle.px_base.specs.Object.{GitObject}
use Rattle.px_base.specs.declared.hash.Hash.{Hash}
use Rattle.objstore.proofs.Ids.{ids_laws}
use Rattle.objstore.specs.Bundle.{without_id, without}
use Rattle.objstore.specs.Entries.{Entries, is_id, is_among, object_at}

-- the ids ascend
abbrev pub Ascends : Entries → Type 0
Ascends store = IsStrictlySortedBy hash_cmp (keys_of store)

-- a choice made again is made alike
cond_again : (b : Bool) (x y z : Option GitObject) → cond b x z ≡ cond b x (cond b y z)
cond_again true x y z = refl
cond_again false x y z = refl

-- two choices of which each excludes the other may change places
cond_swap : (b d : Bool) (x y z : Option GitObject) → (b ≡ true → d ≡ true → ⊥)
    → cond b x (cond d y z) ≡ cond d y (cond b x z)
cond_swap true true x y z apart = absurd (apart refl refl)
cond_swap true false x y z apart = refl
cond_swap false true x y z apart = refl
cond_swap false false x y z apart = refl

-- and so may two of nothing
cond_swap_same : (b d : Bool) (z : Option GitObject)
    → cond b None (cond d None z) ≡ cond d None (cond b None z)
cond_swap_same true true z = refl
cond_swap_same true false z = refl
cond_swap_same false d z = refl

-- two choices of one thing are a choice of it where either is made
pub cond_or : (b d : Bool) (x z : Option GitObject) → cond (b || d) x z ≡ cond b x (cond d x z)
cond_or true d x z = refl
cond_or false d x z = refl

-- ---- a store is what it has under each id

-- ids that ascend pass the test
below_from_all : (id : Hash) (store : Entries)
    → AllByRecursion (λ (q : Hash). hash_cmp id q ≡ Less) (keys_of store)
    → T (below_all hash_cmp id store)
below_from_all id [] all = tt
below_from_all id (e ∷ store) all = rw all.0 (below_from_all id store all.1)

-- so does a store whose ids ascend
sorted_from_ascends : (store : Entries) → Ascends store → T (is_sorted hash_cmp store)
unfolding IsStrictlySortedBy
sorted_from_ascends [] ascends = tt
sorted_from_ascends (e ∷ store) ascends =
    at (below_all hash_cmp e.0 store) (below_from_all e.0 store ascends.0)
    (sorted_from_ascends store ascends.1)
  where
    at : (b : Bool) → T b → T (is_sorted hash_cmp store) → T (b && is_sorted hash_cmp store)
    at true first rest = rest
    at false first rest = first

-- what is found under an id is the object there
find-is : (q : Hash) (store : Entries) → find hash_cmp q store ≡ object_at store q
find-is q [] = refl
find-is q (e ∷ store) =
    ap (cond {A = Option GitObject} (is_id q e.0) (Some e.1)) (find-is q store)

-- so two stores that have the same under each id are one
pub one_store : (store other : Entries) → Ascends store → Ascends other
    → ((q : Hash) → object_at store q ≡ object_at other q) → store ≡ other
one_store store other ascends ascends' same =
    same_entries hash_cmp hash_cmp_total (λ x y e. one_by_order x y (ap is_eq e)) store other
    (sorted_from_ascends store ascends) (sorted_from_ascends other ascends')
    (λ q. find-is q store ∙ same q ∙ sym (find-is q other))

module _ (id : Hash) where
  -- ---- an object is set

  module _ (object : GitObject) where
    -- what holds of all ids, and of this one, holds of all ids then
    all_set : (P : Hash → Type 0) (store : Entries) → AllByRecursion P (keys_of store) → P id
        → AllByRecursion P (keys_of (insert_entry hash_cmp store id object))
    all_set P [] all here = (here, tt)
    all_set P (e ∷ store) all here = at (all_set P store all.1 here) (hash_cmp id e.0)
      where
        at : AllByRecursion P (keys_of (insert_entry hash_cmp store id object)) → (o : Ordering)
            → AllByRecursion P (keys_of (match_ordering o ((id, object) ∷ e ∷ store)
            ((e.0, object) ∷ store) (e ∷ insert_entry hash_cmp store id object)))
        at rest Less = (here, all)
        at rest Equal = all
        at rest Greater = (all.0, rest)

    -- each that is above the one is above what is below that
    all_above : (least : Hash) (ids : List Hash) → hash_cmp id least ≡ Less
        → AllByRecursion (λ (q : Hash). hash_cmp least q ≡ Less) ids
        → AllByRecursion (λ (q : Hash). hash_cmp id q ≡ Less) ids
    all_above least [] below all = tt
    all_above least (q ∷ ids) below all =
        (hash_cmp_total.trans id least q below all.0, all_above least ids below all.1)

    -- the ids ascend then
    pub ascends-set : (store : Entries) → Ascends store
        → Ascends (insert_entry hash_cmp store id object)
    unfolding IsStrictlySortedBy
    ascends-set [] ascends = (tt, tt)
    ascends-set (e ∷ store) ascends = at (ascends-set store ascends.1) (hash_cmp id e.0) refl
      where
        at : Ascends (insert_entry hash_cmp store id object) → (o : Ordering)
            → hash_cmp id e.0 ≡ o
            → IsStrictlySortedBy hash_cmp (keys_of (match_ordering o ((id, object) ∷ e ∷ store)
            ((e.0, object) ∷ store) (e ∷ insert_entry hash_cmp store id object)))
        at rest Less is = ((is, all_above e.0 (keys_of store) is ascends.0), ascends)
        at rest Equal is = ascends
        at rest Greater is = (
          all_set (λ (q : Hash). hash_cmp e.0 q ≡ Less) store ascends.0
              (hash_cmp_total.antisymm e.0 id ∙ ap ordering_reverse is),
          rest,
        )

    -- the id has the object, and every other what it had, also where the ids do not ascend
    pub object_at-set : (store : Entries) (q : Hash)
        → object_at (insert_entry hash_cmp store id object) q
        ≡ cond (is_id id q) (Some object) (object_at store q)
    object_at-set [] q =
        ap (λ (b : Bool). cond {A = Option GitObject} b (Some object) None) (ids_laws.symm q id)
    object_at-set (e ∷ store) q = at (object_at-set store q) (hash_cmp id e.0) refl
      where
        at : object_at (insert_entry hash_cmp store id object) q
            ≡ cond (is_id id q) (Some object) (object_at store q)
            → (o : Ordering) → hash_cmp id e.0 ≡ o
            → lookup (is_id q) (match_ordering o ((id, object) ∷ e ∷ store)
            ((e.0, object) ∷ store) (e ∷ insert_entry hash_cmp store id object))
            ≡ cond (is_id id q) (Some object) (lookup (is_id q) (e ∷ store))
        at rest Less is =
            ap (λ (b : Bool). cond {A = Option GitObject} b (Some object)
            (lookup (is_id q) (e ∷ store))) (ids_laws.symm q id)
        at rest Equal is =
            let same : is_id q e.0 ≡ is_id id q =
            ids_laws.symm q e.0 ∙ sym (ids_laws.congr id e.0 q (ap is_eq is)) in
            ap (λ (b : Bool). cond {A = Option GitObject} b (Some object) (lookup (is_id q) store))
            same
            ∙ cond_again (is_id id q) (Some object) (Some e.1) (lookup (is_id q) store)
            ∙ ap (λ (b : Bool). cond {A = Option GitObject} (is_id id q) (Some object)
            (cond {A = Option GitObject} b (Some e.1) (lookup (is_id q) store))) (sym same)
        at rest Greater is =
            ap (λ (o : Option GitObject). cond {A = Option GitObject} (is_id q e.0) (Some e.1) o)
            rest
            ∙ cond_swap (is_id q e.0) (is_id id q) (Some e.1) (Some object)
            (lookup (is_id q) store)
            (λ here there. absurd (
            let one : is_id id e.0 ≡ true = ids_laws.congr id q e.0 there ∙ here in
            let apart : is_id id e.0 ≡ false = ap is_eq is in
            cc))

  -- ---- an object is taken away

  -- what holds of all ids holds of those that are left
  all_gone : (P : Hash → Type 0) (store : Entries) → AllByRecursion P (keys_of store)
      → AllByRecursion P (keys_of (without_id store id))
  all_gone P [] all = tt
  all_gone P (e ∷ store) all = at (all_gone P store all.1) (is_at (hash_cmp id) e.0)
    where
      at : AllByRecursion P (keys_of (without_id store id)) → (b : Bool)
          → AllByRecursion P (keys_of (cond b store (e ∷ without_id store id)))
      at rest true = all.1
      at rest false = (all.0, rest)

  -- the ids ascend then
  pub ascends-gone : (store : Entries) → Ascends store → Ascends (without_id store id)
  unfolding IsStrictlySortedBy
  ascends-gone [] ascends = tt
  ascends-gone (e ∷ store) ascends =
      at (ascends-gone store ascends.1) (is_at (hash_cmp id) e.0)
    where
      at : Ascends (without_id store id) → (b : Bool)
          → IsStrictlySortedBy hash_cmp (keys_of (cond b store (e ∷ without_id store id)))
      at rest true = ascends.1
      at rest false = (all_gone (λ (q : Hash). hash_cmp e.0 q ≡ Less) store ascends.0, rest)

  -- the id has nothing, and every other what it had
  pub object_at-gone : (store : Entries) → Ascends store → (q : Hash)
      → object_at (without_id store id) q ≡ cond (is_id id q) None (object_at store q)
  object_at-gone store ascends q =
      lookup-remove_entry ids_laws (is_at (hash_cmp id)) (λ x y t. ids_laws.congr id x y t) q store
      (IsDistinct-from_sorted hash_cmp (keys_of store) ascends)

-- ---- the objects of some ids are taken away

-- the ids ascend then
pub ascends-without : (store : Entries) (ids : List Hash) → Ascends store
    → Ascends (without store ids)
ascends-without store [] ascends = ascends
ascends-without store (id ∷ ids) ascends =
    ascends-without (without_id store id) ids (ascends-gone id store ascends)

-- these ids have nothing, and every other what it had
pub object_at-without : (store : Entries) (ids : List Hash) → Ascends store → (q : Hash)
    → object_at (without store ids) q ≡ cond (is_among q ids) None (object_at store q)
object_at-without store [] ascends q = refl
object_at-without store (id ∷ ids) ascends q =
    object_at-without (without_id store id) ids (ascends-gone id store ascends) q
    ∙ ap (cond (is_among q ids) None) (object_at-gone id store ascends q)
    ∙ cond_swap_same (is_among q ids) (is_id id q) (object_at store q)
    ∙ ap (λ (b : Bool). cond {A = Option GitObject} b None
    (cond {A = Option GitObject} (is_among q ids) None (object_at store q))) (ids_laws.symm id q)
    ∙ sym (cond_or (is_id q id) (is_among q ids) None (object_at store q))
