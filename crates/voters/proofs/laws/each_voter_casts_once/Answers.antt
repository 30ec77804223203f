use Rattle.voters.proofs.ActsLemmas.{casts_once}
use Rattle.voters.proofs.laws.each_voter_casts_once.Goals as goal

pub returns : goal.returns
returns c = casts_once
