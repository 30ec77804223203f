use Rattle.cluster_runs.proofs.EachMove.{each_move_goes}
use Rattle.cluster_runs.proofs.Empty.{empty_nodes_are_fit}
use Rattle.cluster_runs.proofs.Safe.{every_run_is_safe as safe}
use Rattle.cluster_runs.proofs.laws.every_run_is_safe.Goals as goal

pub returns : goal.returns
returns c = record { run = safe each_move_goes; start = empty_nodes_are_fit }
