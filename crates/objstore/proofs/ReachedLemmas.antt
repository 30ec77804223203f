-- What is reached from some ids: that it is one list, and which objects it has.
use Rattle.std.proofs.Common.{◌≡◌, ◌+◌, ℕ, zero, suc, List, [], ◌∷◌, ◌++◌, Option, Some, None, refl, sym, ap, ◌∙◌, subst, ⊎_elim, arith}
use Rattle.std.specs.List.{Contains, cons_option, filter_map}
use Rattle.std.proofs.lemmas.List.Elements.{Contains-append_left, Contains-append_right, Contains-push, Contains-append_cases, Contains-push_cases, filter_map-append}
use Rattle.px_base.specs.Object.{GitObject}
use Rattle.px_base.specs.declared.hash.Hash.{Hash}
use Rattle.objstore.proofs.Ids.{Contains-cases, Contains-first, Contains-later, none_stands}
use Rattle.objstore.proofs.WalkLemmas.{reached, taken_at_end}
use Rattle.objstore.specs.Reach.{Objects, IsReachable}
use Rattle.objstore.specs.Reached.{AreReached}
use Rattle.objstore.specs.Walk.{Walk, one_step, walk_after}

-- ---- the objects of some ids

-- the object of an id of the list is among them
found_there : (objects : Objects) (ids : List Hash) (id : Hash) (object : GitObject)
    → Contains ids id → objects id ≡ Some object → Contains (filter_map objects ids) object
found_there objects [] id object stands has = absurd (none_stands id stands)
found_there objects (first ∷ ids) id object stands has =
    ⊎_elim
    (λ same. let here : objects first ≡ Some object = ap objects same ∙ has in
    subst (λ (found : Option GitObject).
    Contains (cons_option found (filter_map objects ids)) object) (sym here)
    (Contains-append_left (object ∷ []) (filter_map objects ids) object (Contains-push [] object)))
    (λ later. behind (objects first) (found_there objects ids id object later has))
    (Contains-cases first ids id stands)
  where
    behind : (found : Option GitObject) → Contains (filter_map objects ids) object
        → Contains (cons_option found (filter_map objects ids)) object
    behind None there = there
    behind (Some other) there =
        Contains-append_right (other ∷ []) (filter_map objects ids) object there

-- an id of the list that has the object
record HasIn (objects : Objects) (ids : List Hash) (object : GitObject) : Type 0 where
  id : Hash
  stands : Contains ids id
  has : objects id ≡ Some object

-- and no other is
only_there : (objects : Objects) (ids : List Hash) (object : GitObject)
    → Contains (filter_map objects ids) object → HasIn objects ids object
only_there objects [] object there = absurd (none_there there)
  where
    none_there : Contains [] object → ⊥
    none_there stands = omega (arith, stands.1)
only_there objects (first ∷ ids) object there =
    at (objects first) refl (only_there objects ids object) there
  where
    at : (found : Option GitObject) → objects first ≡ found
        → (Contains (filter_map objects ids) object → HasIn objects ids object)
        → Contains (cons_option found (filter_map objects ids)) object
        → HasIn objects (first ∷ ids) object
    at None is rest there =
        let r = rest there in
        record { id = r.id; stands = Contains-later first ids r.id r.stands; has = r.has }
    at (Some other) is rest there =
        ⊎_elim
        (λ here. ⊎_elim
        (λ none. absurd (omega (arith, none.1)))
        (λ same. record {
          id = first;
          stands = Contains-first first ids;
          has = is ∙ ap (λ (o : GitObject). Some o) same;
        })
        (Contains-push_cases [] other object here))
        (λ later. let r = rest later in
        record { id = r.id; stands = Contains-later first ids r.id r.stands; has = r.has })
        (Contains-append_cases (other ∷ []) (filter_map objects ids) object there)

module _ (objects : Objects) (tips : List Hash) where
  -- ---- it is one list

  -- a walk that came to its end stays there
  stays_at_end : (n more : ℕ) (taken : List Hash)
      → walk_after objects tips n ≡ record { taken = taken; waiting = [] }
      → walk_after objects tips (more + n) ≡ record { taken = taken; waiting = [] }
  stays_at_end n zero taken over = ap (walk_after objects tips) (zero_more n) ∙ over
    where
      zero_more : (n : ℕ) → 0 + n ≡ n
      zero_more n = omega arith
  stays_at_end n (suc more) taken over =
      ap (walk_after objects tips) (one_more n more)
      ∙ ap (λ (w : Walk). one_step objects w.taken w.waiting) (stays_at_end n more taken over)
    where
      one_more : (n more : ℕ) → suc more + n ≡ suc (more + n)
      one_more n more = omega arith

  -- so two that did took the same
  one_end : (m n : ℕ) (taken other : List Hash)
      → walk_after objects tips m ≡ record { taken = taken; waiting = [] }
      → walk_after objects tips n ≡ record { taken = other; waiting = [] }
      → taken ≡ other
  one_end m n taken other over over' =
      let same : m + n ≡ n + m = omega arith in
      ap (λ (w : Walk). w.taken)
      (sym (stays_at_end m n taken over) ∙ ap (walk_after objects tips) (sym same)
      ∙ stays_at_end n m other over')

  -- so what is reached is one list
  pub one_list : (found other : List GitObject) → AreReached objects tips found
      → AreReached objects tips other → found ≡ other
  one_list found other first second =
      first.are
      ∙ ap (filter_map objects)
      (one_end first.walk.steps second.walk.steps first.taken second.taken first.walk.is
      second.walk.is)
      ∙ sym second.are

  -- ---- which objects it has

  -- the object of each reachable id
  pub has_reachable : (found : List GitObject) → AreReached objects tips found → (id : Hash)
      (object : GitObject) → IsReachable objects tips id → objects id ≡ Some object
      → Contains found object
  has_reachable found all id object reach has =
      subst (λ (list : List GitObject). Contains list object) (sym all.are)
      (found_there objects all.taken id object
      (taken_at_end objects tips (record { taken = all.taken; waiting = [] }) all.walk refl id reach)
      has)

  -- and no other
  pub only_reachable : (found : List GitObject) → AreReached objects tips found
      → (object : GitObject) → Contains found object
      → (id : Hash) × IsReachable objects tips id × (objects id ≡ Some object)
  only_reachable found all object stands =
      let r = only_there objects all.taken object
      (subst (λ (list : List GitObject). Contains list object) all.are stands) in (
        r.id,
        reached objects tips (record { taken = all.taken; waiting = [] }) all.walk r.id
            (Contains-append_left all.taken [] r.id r.stands),
        r.has,
      )

-- ---- one id more was taken

-- its object comes to the end, if it has one
pub filter_map-more : (objects : Objects) (taken after : List Hash) (id : Hash)
    (found : List GitObject) → found ≡ filter_map objects taken → after ≡ taken ++ id ∷ []
    → found ++ filter_map objects (id ∷ []) ≡ filter_map objects after
filter_map-more objects taken after id found are longer =
    ap (λ (list : List GitObject). list ++ filter_map objects (id ∷ [])) are
    ∙ sym (filter_map-append objects taken (id ∷ []))
    ∙ ap (filter_map objects) (sym longer)
