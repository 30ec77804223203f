use Rattle.vote_steps.proofs.Ends.{a_cancel_goes_on}
use Rattle.vote_steps.proofs.laws.a_cancel_goes_on.Goals as goal

pub returns : goal.returns
returns c = a_cancel_goes_on
