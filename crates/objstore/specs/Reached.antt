-- All objects that the walk of some ids takes.
use Rattle.std.specs.Prelude.{◌≡◌, List, []}
use Rattle.std.specs.List.{filter_map}
use Rattle.px_base.specs.Object.{GitObject}
use Rattle.px_base.specs.declared.hash.Hash.{Hash}
use Rattle.objstore.specs.Reach.{Objects}
use Rattle.objstore.specs.Walk.{IsWalk}

-- the walk of the tips comes to its end, and these are the objects of the ids that it took, in order;
-- an id without an object is passed over
pub record AreReached (objects : Objects) (tips : List Hash) (found : List GitObject) : Type 0 where
  pub taken : List Hash
  pub walk : IsWalk objects tips (record { taken = taken; waiting = [] })
  pub are : found ≡ filter_map objects taken
