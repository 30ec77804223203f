use Rattle.cluster_runs.proofs.Later.{routed_reads_are_answered}
use Rattle.cluster_runs.proofs.Routes.{reads_go_to_current_replicas}
use Rattle.cluster_runs.proofs.laws.a_routed_read_is_answered.Goals as goal

pub returns-clause-routed : goal.returns-clause-routed
returns-clause-routed c = reads_go_to_current_replicas

pub returns-clause-answered : goal.returns-clause-answered
returns-clause-answered c = routed_reads_are_answered
