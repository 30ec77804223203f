use Rattle.delivery_steps.proofs.Remove.{remove_goes, unanswered_remove_goes}
use Rattle.delivery_steps.proofs.laws.remove_goes_on.Goals as goal

pub returns : goal.returns
returns c = record { answered = remove_goes; unanswered = unanswered_remove_goes }
