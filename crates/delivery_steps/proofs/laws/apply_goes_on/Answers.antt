use Rattle.delivery_steps.proofs.Apply.{apply_goes, unanswered_apply_goes}
use Rattle.delivery_steps.proofs.laws.apply_goes_on.Goals as goal

pub returns : goal.returns
returns c = record { answered = apply_goes; unanswered = unanswered_apply_goes }
