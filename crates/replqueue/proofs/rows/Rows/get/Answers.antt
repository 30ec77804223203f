use Rattle.std.proofs.Common.{rules, subst}
use Rattle.replqueue.specs.Rows.{AreAscending}
use Rattle.replqueue.proofs.RowTables.{ascending, found_job}
use Rattle.replqueue.proofs.rows.Rows.get.Goals as goal

pub returns-clause-value : goal.returns-clause-value
returns-clause-value c =
    let is = found_job c.args.number.0 c.self.inside.rows.entries c.self.invariant.numbers in
    search (rules, is, c.self.view_is)

pub returns-clause-ascend : goal.returns-clause-ascend
returns-clause-ascend c =
    subst AreAscending c.self.view_is (ascending c.self.inside.rows.entries c.self.invariant.numbers
    c.self.invariant.ascend)
