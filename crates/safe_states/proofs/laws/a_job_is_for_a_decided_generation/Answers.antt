use Rattle.safe_states.proofs.Conditions.{a_job_is_for_a_decided_generation}
use Rattle.safe_states.proofs.laws.a_job_is_for_a_decided_generation.Goals as goal

pub returns : goal.returns
returns c = a_job_is_for_a_decided_generation
