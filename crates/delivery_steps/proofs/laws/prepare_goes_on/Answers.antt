use Rattle.delivery_steps.proofs.Pushes.{prepare_goes, unanswered_prepare_goes}
use Rattle.delivery_steps.proofs.laws.prepare_goes_on.Goals as goal

pub returns : goal.returns
returns c = record { answered = prepare_goes; unanswered = unanswered_prepare_goes }
