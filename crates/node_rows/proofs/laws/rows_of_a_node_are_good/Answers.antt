use Rattle.node_rows.proofs.GoodRows.{rows_are_good}
use Rattle.node_rows.proofs.laws.rows_of_a_node_are_good.Goals as goal

pub returns-clause-good : goal.returns-clause-good
returns-clause-good c = rows_are_good

pub returns-clause-none : goal.returns-clause-none
returns-clause-none c = λ rows node row lawful stand small is.
    is.bad (rows_are_good rows node lawful stand row is.value small is.there)
