use Rattle.voters.proofs.QuorumLemmas.{one_of_acts, one_of_calls}
use Rattle.voters.proofs.laws.no_two_hashes_reach_the_threshold_at_once.Goals as goal

pub returns-clause-acts : goal.returns-clause-acts
returns-clause-acts c = one_of_acts

pub returns-clause-calls : goal.returns-clause-calls
returns-clause-calls c = one_of_calls
