use Rattle.job_events.proofs.Jobs.{fail_keeps}
use Rattle.job_events.proofs.laws.fail_keeps.Goals as goal

pub returns : goal.returns
returns c = fail_keeps
