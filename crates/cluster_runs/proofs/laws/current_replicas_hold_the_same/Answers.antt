use Rattle.cluster_runs.proofs.Current.{current_replicas_agree, current_replicas_agree_at_once, logs_stay}
use Rattle.cluster_runs.proofs.laws.current_replicas_hold_the_same.Goals as goal

pub returns-clause-log : goal.returns-clause-log
returns-clause-log c = logs_stay

pub returns-clause-once : goal.returns-clause-once
returns-clause-once c = current_replicas_agree_at_once

pub returns-clause-later : goal.returns-clause-later
returns-clause-later c = current_replicas_agree
