use Rattle.std.proofs.Common.{sym, subst, arith}
use Rattle.refstore.proofs.RefLists.{takes_more}
use Rattle.refstore.proofs.After.{Ascends}
use Rattle.refstore.proofs.refs.Refs.of_list.Goals as goal

pub loop-name-preserved : goal.loop-name-preserved
loop-name-preserved c =
    takes_more c.as_slice-pairs.result.now c.loop-name.map c.set.new.self c.loop-name.name-index
    c.loop-name-item.result (omega arith) c.loop-name-item.is
    (subst Ascends (sym c.as_slice-pairs.ensures.value) c.as_slice-pairs.ensures.list.ordered)
    c.loop-name.invariant c.in_ok-set.ensures.ok
