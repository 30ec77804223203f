use Rattle.std.proofs.Common.{subst, sym}
use Rattle.px_base.specs.RefList.{IsRefList}
use Rattle.px_base.proofs.Lists.{no_refs}
use Rattle.px_base.proofs.ref_list.RefList.new.Goals as goal

pub invariant_of-result : goal.invariant_of-result
invariant_of-result c = subst IsRefList (sym c.new.ensures) no_refs
