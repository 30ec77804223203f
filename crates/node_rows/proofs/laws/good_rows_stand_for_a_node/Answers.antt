use Rattle.node_rows.proofs.GoodStand.{good_rows_stand}
use Rattle.node_rows.proofs.laws.good_rows_stand_for_a_node.Goals as goal

pub returns : goal.returns
returns c = good_rows_stand
