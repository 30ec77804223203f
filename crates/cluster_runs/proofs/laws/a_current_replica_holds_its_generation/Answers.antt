use Rattle.cluster_runs.proofs.Current.{booked_replicas_hold, current_replicas_hold}
use Rattle.cluster_runs.proofs.laws.a_current_replica_holds_its_generation.Goals as goal

pub returns-clause-current : goal.returns-clause-current
returns-clause-current c = current_replicas_hold

pub returns-clause-booked : goal.returns-clause-booked
returns-clause-booked c = booked_replicas_hold
