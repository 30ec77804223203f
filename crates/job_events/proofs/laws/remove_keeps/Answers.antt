use Rattle.job_events.proofs.Remove.{remove_keeps}
use Rattle.job_events.proofs.laws.remove_keeps.Goals as goal

pub returns : goal.returns
returns c = remove_keeps
