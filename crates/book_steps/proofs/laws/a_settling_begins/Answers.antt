use Rattle.book_steps.proofs.Fencing.{a_settling_begins}
use Rattle.book_steps.proofs.laws.a_settling_begins.Goals as goal

pub returns : goal.returns
returns c = a_settling_begins
