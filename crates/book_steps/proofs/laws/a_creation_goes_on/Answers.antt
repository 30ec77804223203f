use Rattle.book_steps.proofs.Creating.{a_creation_goes_on}
use Rattle.book_steps.proofs.laws.a_creation_goes_on.Goals as goal

pub returns : goal.returns
returns c = a_creation_goes_on
