use Rattle.job_events.proofs.Jobs.{end_update_keeps}
use Rattle.job_events.proofs.laws.end_update_keeps.Goals as goal

pub returns : goal.returns
returns c = end_update_keeps
