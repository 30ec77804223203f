use Rattle.book_steps.proofs.Enrol.{an_enrolment_goes_on}
use Rattle.book_steps.proofs.laws.an_enrolment_goes_on.Goals as goal

pub returns : goal.returns
returns c = an_enrolment_goes_on
