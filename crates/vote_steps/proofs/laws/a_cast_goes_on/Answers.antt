use Rattle.vote_steps.proofs.Casts.{a_cast_goes_on}
use Rattle.vote_steps.proofs.laws.a_cast_goes_on.Goals as goal

pub returns : goal.returns
returns c = a_cast_goes_on
