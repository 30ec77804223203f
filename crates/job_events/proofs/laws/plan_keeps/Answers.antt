use Rattle.job_events.proofs.Jobs.{plan_keeps}
use Rattle.job_events.proofs.laws.plan_keeps.Goals as goal

pub returns : goal.returns
returns c = plan_keeps
