use Rattle.cluster_runs.proofs.Grown.{newest_never_falls}
use Rattle.cluster_runs.proofs.laws.newest_never_falls.Goals as goal

pub returns : goal.returns
returns c = newest_never_falls
