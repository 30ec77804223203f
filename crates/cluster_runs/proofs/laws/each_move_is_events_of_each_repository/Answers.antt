use Rattle.cluster_runs.proofs.EachMove.{each_move_goes}
use Rattle.cluster_runs.proofs.laws.each_move_is_events_of_each_repository.Goals as goal

pub returns : goal.returns
returns c = each_move_goes
