-- What is closed over some objects is closed over more of them.
use Rattle.std.proofs.Common.{◌≡◌, List, [], ◌∷◌, Option, Some, None, IsSome, refl, sym, ap, ◌∙◌, subst}
use Rattle.std.specs.List.{All, Contains}
use Rattle.std.specs.Option.{is_some}
use Rattle.std.proofs.lemmas.List.Elements.{All-contains, All-contains_itself, All-weaker}
use Rattle.px_base.specs.Object.{GitObject}
use Rattle.px_base.specs.declared.hash.Hash.{Hash}
use Rattle.objstore.specs.Reach.{IsClosed, Leads, Objects, links_in}

-- each id that a list leads to from this one has an object
abbrev pub IsClosedFrom : Objects → Hash → Type 0
IsClosedFrom objects tip =
    (path : List Hash) (id : Hash) → Leads objects tip path id → IsSome (objects id)

-- closed is closed from each tip
pub closed_from : (objects : Objects) (tips : List Hash) → IsClosed objects tips
    → All (IsClosedFrom objects) tips
closed_from objects tips closed =
    All-weaker (Contains tips) (IsClosedFrom objects)
    (λ tip begins path id leads. closed id (record {
      tip = tip;
      path = path;
      begins = begins;
      leads = leads;
    }))
    tips (All-contains_itself tips)

pub closed_by : (objects : Objects) (tips : List Hash) → All (IsClosedFrom objects) tips
    → IsClosed objects tips
closed_by objects tips all id reached =
    All-contains (IsClosedFrom objects) tips reached.tip all reached.begins reached.path id
    reached.leads

some_of : (o : Option GitObject) → IsSome o → (object : GitObject) × (o ≡ Some object)
some_of None there = absurd (cc)
some_of (Some object) there = (object, refl)

-- the second has each object that the first has
abbrev pub HasAll : Objects → Objects → Type 0
HasAll few more = (id : Hash) (object : GitObject) → few id ≡ Some object → more id ≡ Some object

module _ (few more : Objects) (all : HasAll few more) where
  -- it has the links that the first has there
  same_there : (id : Hash) → IsSome (few id) → more id ≡ few id
  same_there id there =
      let here = some_of (few id) there in
      all id here.0 here.1 ∙ sym here.1

  some_there : (id : Hash) → IsSome (few id) → IsSome (more id)
  some_there id there = ap is_some (same_there id there) ∙ there

  -- what leads there over the second leads there over the first
  leads_back : (tip : Hash) (path : List Hash) (id : Hash) → IsClosedFrom few tip
      → Leads more tip path id → Leads few tip path id
  leads_back tip [] id closed leads = leads
  leads_back tip (next ∷ path) id closed leads =
      let link : Contains (links_in (few tip)) next =
      subst (λ (o : Option GitObject). Contains (links_in o) next)
      (same_there tip (closed [] tip refl)) leads.0 in
      (link, leads_back next path id (λ rest to on. closed (next ∷ rest) to (link, on)) leads.1)

  pub from_more : (tip : Hash) → IsClosedFrom few tip → IsClosedFrom more tip
  from_more tip closed path id leads =
      some_there id (closed path id (leads_back tip path id closed leads))

  pub all_from_more : (tips : List Hash) → IsClosed few tips → All (IsClosedFrom more) tips
  all_from_more tips closed =
      All-weaker (IsClosedFrom few) (IsClosedFrom more) from_more tips (closed_from few tips closed)

  pub closed_more : (tips : List Hash) → IsClosed few tips → IsClosed more tips
  closed_more tips closed = closed_by more tips (all_from_more tips closed)
