use Rattle.px_cluster.proofs.OneRun.{run_is_one}
use Rattle.px_cluster.proofs.laws.a_list_of_events_has_one_run.Goals as goal

pub returns : goal.returns
returns c = run_is_one
