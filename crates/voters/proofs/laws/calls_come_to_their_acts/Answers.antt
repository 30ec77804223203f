use Rattle.voters.proofs.ActsLemmas.{calls_come_to}
use Rattle.voters.proofs.laws.calls_come_to_their_acts.Goals as goal

pub returns : goal.returns
returns c = calls_come_to
