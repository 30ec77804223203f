use Rattle.delivery_steps.proofs.Pushes.{abort_goes, unanswered_abort_goes}
use Rattle.delivery_steps.proofs.laws.abort_goes_on.Goals as goal

pub returns : goal.returns
returns c = record { answered = abort_goes; unanswered = unanswered_abort_goes }
