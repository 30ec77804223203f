-- All rows were read, or the first bad one is named.
use Rattle.node_rows.proofs.GoodRows.{rows_are_good}
use Rattle.px_node.proofs.OpeningLemmas.{all_opened, found_again}
use Rattle.px_node.specs.Shelf.{place_at}
use Rattle.px_node.proofs.shelf.Shelf.open.Goals as goal

pub returns-in-Ok-clause-ok : goal.returns-in-Ok-clause-ok
returns-in-Ok-clause-ok g c =
    all_opened (g.K.Keeper.rows c.args.keeper) (place_at c.in-Ok.told.replicas.entries)
    c.in-Ok.ensures.ok

pub returns-in-Ok-clause-again : goal.returns-in-Ok-clause-again
returns-in-Ok-clause-again g c =
    found_again (g.K.Keeper.rows c.args.keeper) (place_at c.in-Ok.told.replicas.entries)
    c.in-Ok.ensures.ok

pub returns-in-Err-clause-good : goal.returns-in-Err-clause-good
returns-in-Err-clause-good g c = λ rows node told lawful stand.
    c.in-Err.ensures.good rows told (rows_are_good rows node lawful stand)
