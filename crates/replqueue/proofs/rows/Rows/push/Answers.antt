use Rattle.std.proofs.Common.{◌++◌, ◌∷◌, [], List, sym, subst}
use Rattle.px_ops.specs.declared.job.Job.{Job}
use Rattle.replqueue.specs.Rows.{AreAscending}
use Rattle.replqueue.proofs.RowTables.{pushed_kept, pushed_last}
use Rattle.replqueue.proofs.rows.Rows.push.Goals as goal

pub invariant_of-self : goal.invariant_of-self
invariant_of-self c =
    pushed_kept c.put.result c.self.inside.rows.entries c.put.new.rows.entries c.args.job
    c.self.invariant
    (subst (λ (jobs : List Job). AreAscending (jobs ++ c.args.job ∷ [])) (sym c.self.view_is)
    c.requires) c.put.ensures.ascend c.put.ensures.ok c.put.ensures.err

pub returns-clause-ok : goal.returns-clause-ok
returns-clause-ok c =
    rw (← c.self.view_is) (pushed_last c.put.result c.self.inside.rows.entries
    c.put.new.rows.entries c.args.job c.self.invariant
    (subst (λ (jobs : List Job). AreAscending (jobs ++ c.args.job ∷ [])) (sym c.self.view_is)
    c.requires) c.put.ensures.ok)
