use Rattle.script_rules.proofs.Transactions.{quorums_name_hashes, thresholds_are_most}
use Rattle.script_rules.proofs.laws.standing_votes_name_each_committed_hash.Goals as goal

pub returns-clause-quorum : goal.returns-clause-quorum
returns-clause-quorum c = quorums_name_hashes

pub returns-clause-most : goal.returns-clause-most
returns-clause-most c = thresholds_are_most
