use Rattle.cluster_form.proofs.LeftKept.{both_kept, left_always}
use Rattle.cluster_form.proofs.laws.a_generation_is_left_for_each_open_push.Goals as goal

pub returns-clause-step : goal.returns-clause-step
returns-clause-step c = both_kept

pub returns-clause-run : goal.returns-clause-run
returns-clause-run c = left_always
