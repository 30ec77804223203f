use Rattle.job_events.proofs.Take.{take_update_keeps}
use Rattle.job_events.proofs.laws.take_update_keeps.Goals as goal

pub returns : goal.returns
returns c = take_update_keeps
