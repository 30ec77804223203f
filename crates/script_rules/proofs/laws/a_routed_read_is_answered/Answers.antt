use Rattle.script_rules.proofs.Booked.{reads_go_there, routed_reads_come}
use Rattle.script_rules.proofs.laws.a_routed_read_is_answered.Goals as goal

pub returns-clause-routed : goal.returns-clause-routed
returns-clause-routed c = reads_go_there

pub returns-clause-answered : goal.returns-clause-answered
returns-clause-answered c = routed_reads_come
