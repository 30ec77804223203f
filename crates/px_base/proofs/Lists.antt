-- The empty lists of references and of paths.
use Rattle.std.proofs.Common.{[], arith}
use Rattle.std.specs.List.Sorted.{IsStrictlySortedBy}
use Rattle.px_base.specs.PathList.{IsPathList}
use Rattle.px_base.specs.RefList.{IsRefList}

-- a repository may have no references
pub no_refs : IsRefList []
unfolding IsStrictlySortedBy
no_refs = record {
  ordered = tt;
  lawful = λ name id there. absurd (cc);
  apart = λ name other here there. absurd (cc);
  few = omega arith;
}

pub no_paths : IsPathList []
unfolding IsStrictlySortedBy
no_paths = record { ordered = tt; lawful = tt }
