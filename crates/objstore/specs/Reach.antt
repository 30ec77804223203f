-- What is reachable from some ids, by lists of steps.
use Rattle.std.specs.Prelude.{◌≡◌, List, [], ◌∷◌, IsSome, Option, None, Some}
use Rattle.std.specs.List.{Contains}
use Rattle.px_base.specs.Object.{GitObject}
use Rattle.px_base.specs.declared.hash.Hash.{Hash}
use Rattle.object_format.specs.Links.{links_of}

-- the object of each id, where there is one
abbrev pub Objects : Type 0
Objects = Hash → Option GitObject

-- the links of an object, and none where there is no object
abbrev pub links_in : Option GitObject → List Hash
links_in None = []
links_in (Some object) = links_of object.kind object.content

-- the list leads from one id to another: each id of it is a link of the object of the one before
abbrev pub Leads : Objects → Hash → List Hash → Hash → Type 0
Leads objects from [] to = from ≡ to
Leads objects from (next ∷ path) to =
    Contains (links_in (objects from)) next × Leads objects next path to

-- a list of ids that begins with one of the tips leads to the id
pub record IsReachable (objects : Objects) (tips : List Hash) (id : Hash) : Type 0 where
  pub tip : Hash
  pub path : List Hash
  pub begins : Contains tips tip
  pub leads : Leads objects tip path id

-- each id that is reachable has an object
abbrev pub IsClosed : Objects → List Hash → Type 0
IsClosed objects tips = (id : Hash) → IsReachable objects tips id → IsSome (objects id)
