use Rattle.job_steps.proofs.Dequeue.{a_dequeue_goes_on}
use Rattle.job_steps.proofs.laws.a_dequeue_goes_on.Goals as goal

pub returns : goal.returns
returns c = a_dequeue_goes_on
