-- All rows were read, or the first bad one is named.
use Rattle.px_keeper.proofs.ReadTables.{all_good, all_had, at_first, none_is_bad}
use Rattle.px_keeper.proofs.reading.read_all.Goals as goal

pub read_rows-requires-clause-read : goal.read_rows-requires-clause-read
read_rows-requires-clause-read g c =
    at_first g.T.TakeRows.good (g.T.TakeRows.has c.args.taker) (g.K.Keeper.rows c.args.keeper)
    c.requires.nothing

pub returns-in-Ok-clause-ok : goal.returns-in-Ok-clause-ok
returns-in-Ok-clause-ok g c = λ rows told. (
  all_good g.T.TakeRows.good (g.T.TakeRows.has c.read_rows.new.taker) rows
      (c.in-Ok.ensures.ok rows told),
  all_had g.T.TakeRows.good (g.T.TakeRows.has c.read_rows.new.taker) rows
      (c.in-Ok.ensures.ok rows told),
)

pub returns-in-Err-BadRow-clause-good : goal.returns-in-Err-BadRow-clause-good
returns-in-Err-BadRow-clause-good g c =
    none_is_bad g.T.TakeRows.good (g.K.Keeper.rows c.args.keeper) c.in-Err-BadRow.field-0
    c.in-Err-BadRow.table c.in-Err-BadRow.key c.in-Err-BadRow.ensures.bad
    c.in-Err-BadRow.field-0-is
