use Rattle.cluster_form.proofs.FormKept.{form_always, form_kept}
use Rattle.cluster_form.proofs.laws.each_move_keeps_the_form.Goals as goal

pub returns-clause-run : goal.returns-clause-run
returns-clause-run c = form_always

pub returns-clause-step : goal.returns-clause-step
returns-clause-step c = form_kept
