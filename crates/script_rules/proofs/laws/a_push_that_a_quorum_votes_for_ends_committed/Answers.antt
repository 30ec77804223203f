use Rattle.script_rules.proofs.Complete.{pushes_begin_untouched, pushes_of_a_quorum_end_committed, pushes_of_all_members_end_committed}
use Rattle.script_rules.proofs.laws.a_push_that_a_quorum_votes_for_ends_committed.Goals as goal

pub returns-clause-begun : goal.returns-clause-begun
returns-clause-begun c = pushes_begin_untouched

pub returns-clause-quorum : goal.returns-clause-quorum
returns-clause-quorum c = pushes_of_a_quorum_end_committed

pub returns-clause-all : goal.returns-clause-all
returns-clause-all c = pushes_of_all_members_end_committed
