use Rattle.refstore.proofs.checks.check_update.Goals as goal

pub returns-clause-names : goal.returns-clause-names
returns-clause-names c = λ before named. (c.in_ok-is_new.ensures before named).1
