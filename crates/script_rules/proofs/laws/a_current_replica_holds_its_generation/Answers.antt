use Rattle.script_rules.proofs.Booked.{current_replicas_are_held, current_replicas_are_one}
use Rattle.script_rules.proofs.laws.a_current_replica_holds_its_generation.Goals as goal

pub returns-clause-held : goal.returns-clause-held
returns-clause-held c = current_replicas_are_held

pub returns-clause-same : goal.returns-clause-same
returns-clause-same c = current_replicas_are_one
