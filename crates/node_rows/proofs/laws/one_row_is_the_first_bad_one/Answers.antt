use Rattle.node_rows.proofs.FirstBad.{one_first_bad}
use Rattle.node_rows.proofs.laws.one_row_is_the_first_bad_one.Goals as goal

pub returns : goal.returns
returns c = one_first_bad
