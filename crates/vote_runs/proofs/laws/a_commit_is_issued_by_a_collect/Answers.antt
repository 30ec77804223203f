use Rattle.vote_runs.proofs.Collected.{commits_are_issued_by_collects}
use Rattle.vote_runs.proofs.laws.a_commit_is_issued_by_a_collect.Goals as goal

pub returns : goal.returns
returns c = commits_are_issued_by_collects
