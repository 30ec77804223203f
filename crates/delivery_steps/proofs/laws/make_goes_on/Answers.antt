use Rattle.delivery_steps.proofs.Make.{make_goes, unanswered_make_goes}
use Rattle.delivery_steps.proofs.laws.make_goes_on.Goals as goal

pub returns : goal.returns
returns c = record { answered = make_goes; unanswered = unanswered_make_goes }
