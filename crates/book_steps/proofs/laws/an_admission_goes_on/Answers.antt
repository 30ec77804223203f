use Rattle.book_steps.proofs.Admitted.{an_admission_goes_on}
use Rattle.book_steps.proofs.laws.an_admission_goes_on.Goals as goal

pub returns : goal.returns
returns c = an_admission_goes_on
