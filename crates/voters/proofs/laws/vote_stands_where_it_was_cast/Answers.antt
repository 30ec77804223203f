use Rattle.voters.proofs.ContainLemmas.{stands_is}
use Rattle.voters.proofs.laws.vote_stands_where_it_was_cast.Goals as goal

pub returns : goal.returns
returns c = stands_is
