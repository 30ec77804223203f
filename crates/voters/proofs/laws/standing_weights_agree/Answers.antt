use Rattle.voters.proofs.AgreeLemmas.{standing_agrees}
use Rattle.voters.proofs.laws.standing_weights_agree.Goals as goal

pub returns : goal.returns
returns c = standing_agrees
