use Rattle.job_steps.proofs.Planned.{a_plan_goes_on}
use Rattle.job_steps.proofs.laws.a_plan_goes_on.Goals as goal

pub returns : goal.returns
returns c = a_plan_goes_on
