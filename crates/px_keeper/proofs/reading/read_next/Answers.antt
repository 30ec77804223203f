-- The next row of a table is taken over, or is the first bad one; or none is left.
use Rattle.std.proofs.Common.{ap, Err, arith}
use Rattle.std.specs.Option.{option_copied}
use Rattle.px_keeper.proofs.ReadTables.{next_is_bad, next_reads, table_ends}
use Rattle.px_keeper.proofs.reading.read_next.Goals as goal

pub returns-in-Ok-None-clause-end : goal.returns-in-Ok-None-clause-end
returns-in-Ok-None-clause-end g c =
    λ none. table_ends g.T.TakeRows.good (g.T.TakeRows.has c.args.taker.now)
    (g.K.Keeper.rows c.args.keeper.now) c.args.table c.args.last
    (option_copied c.bytes_of.result) c.in-Ok-None.field-0
    c.requires.read c.bytes_of.ensures c.in-Ok-None.ensures.value c.in-Ok-None.field-0-is

pub returns-in-Ok-clause-more : goal.returns-in-Ok-clause-more
returns-in-Ok-clause-more g c =
    λ some. next_reads g.T.TakeRows.good (g.T.TakeRows.has c.args.taker.now)
    (g.K.Keeper.rows c.args.keeper.now) c.args.table c.args.last
    (option_copied c.bytes_of.result)
    c.in-Ok-Some.field-0 c.requires.read c.bytes_of.ensures c.in-Ok-Some.ensures.value
    c.in-Ok-Some.row.0 c.in-Ok-Some.row.1 c.as_slice.result.now c.as_slice-2.result.now
    c.in-Ok-Some.field-0-is c.as_slice.ensures c.as_slice-2.ensures
    (g.T.TakeRows.has c.take.new.self) c.in-Ok.ensures.ok

pub returns-in-Err-BadRow-clause-bad : goal.returns-in-Err-BadRow-clause-bad
returns-in-Err-BadRow-clause-bad g c = (
  omega (arith, c.ranges.table),
  next_is_bad g.T.TakeRows.good (g.T.TakeRows.has c.args.taker.now)
      (g.K.Keeper.rows c.args.keeper.now) c.args.table c.args.last
      (option_copied c.bytes_of.result)
      c.in-Ok-Some.field-0 c.requires.read c.bytes_of.ensures c.in-Ok-Some.ensures.value
      c.in-Ok-Some.row.0 c.in-Ok-Some.row.1 c.as_slice.result.now c.as_slice-2.result.now
      c.in-Ok-Some.field-0-is c.as_slice.ensures c.as_slice-2.ensures
      (c.in-Err-BadRow.ensures.bad (ap Err c.in-Err-BadRow.field-0-is)),
)
