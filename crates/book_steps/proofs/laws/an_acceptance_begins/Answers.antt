use Rattle.book_steps.proofs.Fencing.{an_acceptance_begins}
use Rattle.book_steps.proofs.laws.an_acceptance_begins.Goals as goal

pub returns : goal.returns
returns c = an_acceptance_begins
