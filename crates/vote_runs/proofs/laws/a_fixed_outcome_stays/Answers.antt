use Rattle.vote_runs.proofs.Outcomes.{outcomes_stay}
use Rattle.vote_runs.proofs.laws.a_fixed_outcome_stays.Goals as goal

pub returns : goal.returns
returns c = outcomes_stay
