use Rattle.px_cluster.proofs.GrowingRuns.{run_grows, step_grows}
use Rattle.px_cluster.proofs.laws.newest_never_falls.Goals as goal

pub returns : goal.returns
returns c = record { step = step_grows; run = run_grows }
