use Rattle.job_events.proofs.Apply.{apply_keeps}
use Rattle.job_events.proofs.laws.apply_keeps.Goals as goal

pub returns : goal.returns
returns c = apply_keeps
