use Rattle.std.proofs.Common.{subst, sym}
use Rattle.px_base.specs.PathList.{IsPathList}
use Rattle.px_base.proofs.Lists.{no_paths}
use Rattle.px_base.proofs.path_list.PathList.new.Goals as goal

pub invariant_of-result : goal.invariant_of-result
invariant_of-result c = subst IsPathList (sym c.new.ensures) no_paths
