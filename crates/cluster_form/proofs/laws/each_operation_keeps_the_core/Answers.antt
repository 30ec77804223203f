use Rattle.cluster_form.proofs.LeftKept.{at_first, kept_by_ops, kept_by_restarts}
use Rattle.cluster_form.proofs.laws.each_operation_keeps_the_core.Goals as goal

pub returns-clause-step : goal.returns-clause-step
returns-clause-step c = kept_by_ops

pub returns-clause-restart : goal.returns-clause-restart
returns-clause-restart c = kept_by_restarts

pub returns-clause-start : goal.returns-clause-start
returns-clause-start c = at_first
