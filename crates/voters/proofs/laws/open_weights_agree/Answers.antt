use Rattle.voters.proofs.AgreeLemmas.{open_agrees}
use Rattle.voters.proofs.laws.open_weights_agree.Goals as goal

pub returns : goal.returns
returns c = open_agrees
