use Rattle.px_cluster.proofs.OneRun.{step_is_one}
use Rattle.px_cluster.proofs.laws.an_event_has_one_answer.Goals as goal

pub returns : goal.returns
returns c = step_is_one
