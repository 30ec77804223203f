use Rattle.std.proofs.Common.{◌≡◌, None}
use Rattle.px_keeper.specs.Unread.{ReadUpTo}
use Rattle.px_keeper.proofs.reading.read_rows.Given as goal

-- the tables before this one were read; the keeper is as it was
abbrev pub invariant-loop-table : goal.invariant-loop-table
invariant-loop-table g l = record {
  whole : g.T.TakeRows.whole l.taker;
  read : ReadUpTo g.T.TakeRows.good (g.T.TakeRows.has l.taker) (g.K.Keeper.rows l.keeper) l.table
      None;
  same : g.K.Keeper.rows l.keeper ≡ g.K.Keeper.rows l.fn.keeper;
  count : g.K.Keeper.keep_faults l.keeper ≡ g.K.Keeper.keep_faults l.fn.keeper;
  plan : g.K.Keeper.commit_fails l.keeper ≡ g.K.Keeper.commit_fails l.fn.keeper;
}
