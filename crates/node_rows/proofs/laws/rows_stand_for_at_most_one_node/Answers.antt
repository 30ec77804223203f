use Rattle.node_rows.proofs.OneNode.{one_node}
use Rattle.node_rows.proofs.laws.rows_stand_for_at_most_one_node.Goals as goal

pub returns : goal.returns
returns c = one_node
