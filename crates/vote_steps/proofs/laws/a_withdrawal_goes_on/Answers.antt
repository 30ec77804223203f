use Rattle.vote_steps.proofs.Ends.{a_withdrawal_goes_on}
use Rattle.vote_steps.proofs.laws.a_withdrawal_goes_on.Goals as goal

pub returns : goal.returns
returns c = a_withdrawal_goes_on
