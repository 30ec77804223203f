use Rattle.job_events.proofs.Jobs.{drop_keeps}
use Rattle.job_events.proofs.laws.drop_keeps.Goals as goal

pub returns : goal.returns
returns c = drop_keeps
