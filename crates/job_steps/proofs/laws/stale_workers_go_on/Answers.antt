use Rattle.job_steps.proofs.QueueChanges.{stale_workers_go_on}
use Rattle.job_steps.proofs.laws.stale_workers_go_on.Goals as goal

pub returns : goal.returns
returns c = stale_workers_go_on
