use Rattle.std.proofs.Common.{◌≡◌}
use Rattle.px_keeper.specs.Unread.{ReadUpTo}
use Rattle.px_keeper.proofs.reading.read_table.Given as goal

-- the rows up to the last key were read; the keeper is as it was
abbrev pub invariant-loop : goal.invariant-loop
invariant-loop g l = record {
  whole : g.T.TakeRows.whole l.taker;
  read : ReadUpTo g.T.TakeRows.good (g.T.TakeRows.has l.taker) (g.K.Keeper.rows l.keeper) l.table
      l.last;
  same : g.K.Keeper.rows l.keeper ≡ g.K.Keeper.rows l.fn.keeper;
  count : g.K.Keeper.keep_faults l.keeper ≡ g.K.Keeper.keep_faults l.fn.keeper;
  plan : g.K.Keeper.commit_fails l.keeper ≡ g.K.Keeper.commit_fails l.fn.keeper;
}
