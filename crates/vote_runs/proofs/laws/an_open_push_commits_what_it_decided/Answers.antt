use Rattle.vote_runs.proofs.Decided.{open_pushes_commit_what_they_decided}
use Rattle.vote_runs.proofs.laws.an_open_push_commits_what_it_decided.Goals as goal

pub returns : goal.returns
returns c = open_pushes_commit_what_they_decided
