use Rattle.std.proofs.Common.{ap, ◌∙◌}
use Rattle.std.specs.Map.{values_of}
use Rattle.replqueue.specs.Rows.{AreRows}
use Rattle.replqueue.proofs.RowTables.{ascending, numbered_removed, removed_is}
use Rattle.replqueue.proofs.rows.Rows.remove.Goals as goal

pub invariant_of-self : goal.invariant_of-self
invariant_of-self c = record {
  numbers = rw c.remove.ensures.entries (numbered_removed c.args.number.0 c.self.inside.rows.entries
      c.self.invariant.numbers);
  ascend = c.remove.ensures.ordered;
}

pub returns-clause-value : goal.returns-clause-value
returns-clause-value c =
    rw (← c.self.view_is) (ap values_of c.remove.ensures.entries
    ∙ removed_is c.args.number.0 c.self.inside.rows.entries c.self.invariant.numbers
    c.self.invariant.ascend)

pub returns-clause-ascend : goal.returns-clause-ascend
returns-clause-ascend c =
    let kept : AreRows c.remove.new.self.entries = invariant_of-self c in
    ascending c.remove.new.self.entries kept.numbers kept.ascend
