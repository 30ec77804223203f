use Rattle.job_steps.proofs.QueueChanges.{a_beat_goes_on}
use Rattle.job_steps.proofs.laws.a_beat_goes_on.Goals as goal

pub returns : goal.returns
returns c = a_beat_goes_on
