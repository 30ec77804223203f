use Rattle.vote_runs.proofs.Named.{issued_commits_are_named}
use Rattle.vote_runs.proofs.laws.a_quorum_names_what_is_issued.Goals as goal

pub returns : goal.returns
returns c = issued_commits_are_named
