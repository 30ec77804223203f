-- A walk takes no more ids with objects than two stores have objects, and no other ids than the tips
-- and the links of objects.
use Rattle.std.proofs.Common.{◌≡◌, ◌+◌, ◌≤◌, Bool, true, false, cond, List, [], ◌∷◌, ◌++◌, length, Option, Some, refl, ap, ◌∙◌, subst}
use Rattle.std.specs.List.{Contains, IsDistinct, AllByRecursion}
use Rattle.std.specs.Map.{lookup}
use Rattle.std.specs.Option.{IsSome, option_or}
use Rattle.std.proofs.lemmas.List.{length-append}
use Rattle.std.proofs.lemmas.List.Elements.{Contains-append_left, Contains-append_right}
use Rattle.std.proofs.lemmas.Map.Made.{length-le_from_is_member}
use Rattle.std.proofs.lemmas.Map.Keys.{IsDistinct-head, IsDistinct-tail, IsDistinct-cons}
use Rattle.std.proofs.lemmas.Map.Steps.{length-le_from_keys}
use Rattle.px_base.specs.Object.{GitObject}
use Rattle.px_base.specs.declared.hash.Hash.{Hash}
use Rattle.object_format.specs.Links.{links_of}
use Rattle.objstore.proofs.Ids.{ids_laws, among_from_Contains, Contains_from_among, none_stands}
use Rattle.objstore.proofs.WalkLemmas.{distinct_walk, reached}
use Rattle.objstore.specs.Entries.{Entries, is_id, object_at, object_in}
use Rattle.objstore.specs.Reach.{Leads, links_in}
use Rattle.objstore.specs.Walk.{Walk, stood, IsWalk, AllFound}

-- what is true of each element is true of each in a front
AllByRecursion-front : (P : Hash → Type 0) (xs ys : List Hash) → AllByRecursion P (xs ++ ys)
    → AllByRecursion P xs
AllByRecursion-front P [] ys all = tt
AllByRecursion-front P (x ∷ xs) ys all = (all.0, AllByRecursion-front P xs ys all.1)

-- a front of a list without repeats has none
IsDistinct-front : (xs ys : List Hash) → IsDistinct is_id (xs ++ ys) → IsDistinct is_id xs
unfolding IsDistinct
IsDistinct-front [] ys distinct = tt
IsDistinct-front (x ∷ xs) ys distinct =
    IsDistinct-cons is_id x xs
    (AllByRecursion-front (λ y. is_id x y ≡ false) xs ys
    (IsDistinct-head is_id x (xs ++ ys) distinct))
    (IsDistinct-front xs ys (IsDistinct-tail is_id x (xs ++ ys) distinct))

-- a choice between an object and what else there is, with something in its place
option_or-cond : (b : Bool) (object : GitObject) (first second : Option GitObject)
    → option_or (cond b (Some object) first) second ≡ cond b (Some object) (option_or first second)
option_or-cond true object first second = refl
option_or-cond false object first second = refl

-- the entries of both, one after another, have what the one has, or else the other
pub lookup-both : (store extra : Entries) (id : Hash)
    → object_in store extra id ≡ lookup (is_id id) (store ++ extra)
lookup-both [] extra id = refl
lookup-both (e ∷ store) extra id =
    option_or-cond (is_id id e.0) e.1 (lookup (is_id id) store) (lookup (is_id id) extra)
    ∙ ap (cond (is_id id e.0) (Some e.1)) (lookup-both store extra id)

-- no more were taken than there are objects
pub taken_few : (store extra : Entries) (tips : List Hash) (walk : Walk)
    → IsWalk (object_in store extra) tips walk → AllFound (object_in store extra) walk.taken
    → length walk.taken ≤ length store + length extra
taken_few store extra tips walk is found =
    subst (λ n. length walk.taken ≤ n) (length-append store extra)
    (length-le_from_keys ids_laws walk.taken (store ++ extra)
    (IsDistinct-front walk.taken walk.waiting (distinct_walk (object_in store extra) tips walk is))
    (λ q among. subst IsSome (lookup-both store extra q)
    (found q (Contains_from_among walk.taken q among))))

-- ---- ids without an object as well

-- the links of all objects
abbrev pub all_links : Entries → List Hash
all_links [] = []
all_links (e ∷ store) = links_of e.1.kind e.1.content ++ all_links store

-- the links of an object of the store are among them
links_within : (store : Entries) (id q : Hash) → Contains (links_in (object_at store id)) q
    → Contains (all_links store) q
links_within [] id q links = absurd (none_stands q links)
links_within (e ∷ store) id q links =
    at (is_id id e.0) (λ later. links_within store id q later) links
  where
    at : (b : Bool)
        → (Contains (links_in (object_at store id)) q → Contains (all_links store) q)
        → Contains (links_in (cond b (Some e.1) (object_at store id))) q
        → Contains (all_links (e ∷ store)) q
    at true rest here =
        Contains-append_left (links_of e.1.kind e.1.content) (all_links store) q here
    at false rest later =
        Contains-append_right (links_of e.1.kind e.1.content) (all_links store) q (rest later)

module _ (store : Entries) (tips : List Hash) where
  -- what a path from a tip, or from a link, leads to is a tip or a link
  path_within : (from : Hash) (path : List Hash) (to : Hash)
      → Contains (tips ++ all_links store) from → Leads (object_at store) from path to
      → Contains (tips ++ all_links store) to
  path_within from [] to within leads =
      subst (λ (p : Hash). Contains (tips ++ all_links store) p) leads within
  path_within from (next ∷ path) to within leads =
      path_within next path to
      (Contains-append_right tips (all_links store) next (links_within store from next leads.0))
      leads.1

  -- so no more were taken than there are tips and links
  pub all_few : (walk : Walk) → IsWalk (object_at store) tips walk
      → length walk.taken ≤ length tips + length (all_links store)
  all_few walk is =
      subst (λ n. length walk.taken ≤ n) (length-append tips (all_links store))
      (length-le_from_is_member ids_laws walk.taken (tips ++ all_links store)
      (IsDistinct-front walk.taken walk.waiting (distinct_walk (object_at store) tips walk is))
      (λ q among. among_from_Contains (tips ++ all_links store) q
      (stood_within q (Contains-append_left walk.taken walk.waiting q
      (Contains_from_among walk.taken q among)))))
    where
      stood_within : (q : Hash) → Contains (stood walk) q → Contains (tips ++ all_links store) q
      stood_within q stands =
          let reach = reached (object_at store) tips walk is q stands in
          path_within reach.tip reach.path q
          (Contains-append_left tips (all_links store) reach.tip reach.begins) reach.leads
