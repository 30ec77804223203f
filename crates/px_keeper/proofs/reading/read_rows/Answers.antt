-- A table was read, and after the last one all were.
use Rattle.std.proofs.Common.{◌≡◌, ◌∙◌, ℕ, None, arith, subst, sym}
use Rattle.px_keeper.specs.Reading.{ReadTo}
use Rattle.px_keeper.proofs.reading.read_rows.Goals as goal

pub loop-table-preserved : goal.loop-table-preserved
loop-table-preserved g c = record {
  whole = c.in_ok-read_table.ensures.whole;
  read = λ rows told. c.in_ok-read_table.ensures.ok rows
      (sym c.in_ok-read_table.ensures.same ∙ told);
  same = c.in_ok-read_table.ensures.same ∙ c.loop-table.invariant.same;
  count = c.in_ok-read_table.ensures.cause ∙ c.loop-table.invariant.count;
  plan = c.in_ok-read_table.ensures.plan ∙ c.loop-table.invariant.plan;
}

pub returns-clause-ok : goal.returns-clause-ok
returns-clause-ok g c =
    let end : c.loop-table.table ≡ 256 = omega arith in
    λ rows told. subst (λ (table : ℕ).
    ReadTo g.T.TakeRows.good (g.T.TakeRows.has c.loop-table.taker) rows table None) end
    (c.loop-table.invariant.read rows (c.loop-table.invariant.same ∙ told))
