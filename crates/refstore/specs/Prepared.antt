-- What is seen of a prepared list of updates.
use Rattle.px_base.specs.RefList.{References}
use Rattle.px_base.specs.declared.hash.Hash.{Hash}

-- the references as they will be, and the vote on the list
pub record PreparedList : Type 0 where
  pub refs : References
  pub vote : Hash
