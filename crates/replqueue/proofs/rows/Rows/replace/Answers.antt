use Rattle.std.proofs.Common.{◌≡◌, ◌∙◌, None, Some, rules, ap, sym}
use Rattle.std.specs.BTreeMap.{is_at}
use Rattle.std.specs.Map.{lookup, set_value, values_of}
use Rattle.std.specs.Ordering.{nat_cmp}
use Rattle.replqueue.specs.Rows.{AreRows}
use Rattle.replqueue.proofs.RowTables.{ascending, found_job, replaced_is, replaced_kept}
use Rattle.replqueue.proofs.rows.Rows.replace.Goals as goal
use Rattle.replqueue.proofs.rows.Rows.replace.Goals.{in-Some, in_default}

pub invariant_of-self : goal.invariant_of-self
invariant_of-self c =
    let es = c.self.inside.rows.entries in
    elim c.match-get_mut.branch [
      | in-Some w ↦
          (let is : c.match-get_mut.self-inside.rows.entries
          ≡ set_value (is_at (nat_cmp c.args.job.number.0)) es c.args.job = search rules in
          rw is (replaced_kept es c.args.job c.self.invariant))
      | in_default w ↦ search rules
    ]

pub returns-clause-value : goal.returns-clause-value
returns-clause-value c change before found becomes =
    let es = c.self.inside.rows.entries in
    let there : lookup (is_at (nat_cmp c.args.job.number.0)) es ≡ Some before =
    found_job c.args.job.number.0 es c.self.invariant.numbers ∙ rw c.self.view_is found in
    elim c.match-get_mut.branch [
      | in-Some w ↦
          (let is : c.match-get_mut.self-inside.rows.entries
          ≡ set_value (is_at (nat_cmp c.args.job.number.0)) es c.args.job = search rules in
          rw (← c.self.view_is) (ap values_of is
          ∙ replaced_is es c.args.job change before c.self.invariant there becomes))
      | in_default w ↦
          (let none : lookup (is_at (nat_cmp c.args.job.number.0)) es ≡ None = search rules in
          absurd (let no : Some before ≡ None = sym there ∙ none in cc))
    ]

pub returns-clause-ascend : goal.returns-clause-ascend
returns-clause-ascend c =
    let kept : AreRows c.match-get_mut.self-inside.rows.entries = invariant_of-self c in
    ascending c.match-get_mut.self-inside.rows.entries kept.numbers kept.ascend
