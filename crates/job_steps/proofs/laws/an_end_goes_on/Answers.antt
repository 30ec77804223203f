use Rattle.job_steps.proofs.Ends.{an_end_goes_on}
use Rattle.job_steps.proofs.laws.an_end_goes_on.Goals as goal

pub returns : goal.returns
returns c = an_end_goes_on
