-- Why the walk of some ids did not come to its end.
use Rattle.std.specs.Prelude.{List}
use Rattle.px_base.specs.declared.hash.Hash.{Hash}
use Rattle.objstore.specs.Reach.{Objects, IsReachable}
use Rattle.objstore.specs.Walk.{IsFirstMissing}
use Rattle.objstore.specs.declared.store.ClosedFault.{ClosedFault}
use Rattle.objstore.specs.declared.store.ClosedFault.TheVariants.{Missing, Memory}

-- the id is the first that the walk takes and that has no object, and it is reachable
abbrev pub IsMissed : Objects → List Hash → ClosedFault → Type 0
IsMissed objects tips (Missing id) =
    IsFirstMissing objects tips id × IsReachable objects tips id
IsMissed objects tips Memory = Unit {0}
