use Rattle.vote_runs.proofs.BegunPushes.{pushes_begin_untouched}
use Rattle.vote_runs.proofs.Complete.{pushes_end_committed, pushes_of_all_end_committed}
use Rattle.vote_runs.proofs.laws.a_push_that_a_quorum_votes_for_ends_committed.Goals as goal

pub returns-clause-begun : goal.returns-clause-begun
returns-clause-begun c = pushes_begin_untouched

pub returns-clause-all : goal.returns-clause-all
returns-clause-all c = pushes_of_all_end_committed

pub returns-clause-quorum : goal.returns-clause-quorum
returns-clause-quorum c = pushes_end_committed
