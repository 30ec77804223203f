use Rattle.vote_steps.proofs.Ends.{a_stop_goes_on}
use Rattle.vote_steps.proofs.laws.a_stop_goes_on.Goals as goal

pub returns : goal.returns
returns c = a_stop_goes_on
