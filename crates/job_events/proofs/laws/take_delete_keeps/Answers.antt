use Rattle.job_events.proofs.TakeDelete.{take_delete_keeps}
use Rattle.job_events.proofs.laws.take_delete_keeps.Goals as goal

pub returns : goal.returns
returns c = take_delete_keeps
