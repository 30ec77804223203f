use Rattle.voters.proofs.ContainLemmas.{is_open_is}
use Rattle.voters.proofs.laws.voter_is_open_until_it_acts.Goals as goal

pub returns : goal.returns
returns c = is_open_is
