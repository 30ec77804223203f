use Rattle.cluster_runs.proofs.Later.{replicas_go_by_deletes}
use Rattle.cluster_runs.proofs.laws.a_replica_goes_by_a_delete.Goals as goal

pub returns : goal.returns
returns c = replicas_go_by_deletes
