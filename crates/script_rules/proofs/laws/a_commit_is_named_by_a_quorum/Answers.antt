use Rattle.script_rules.proofs.Commits.{commits_are_named, open_pushes_commit_what_is_decided}
use Rattle.script_rules.proofs.laws.a_commit_is_named_by_a_quorum.Goals as goal

pub returns-clause-issued : goal.returns-clause-issued
returns-clause-issued c = commits_are_named

pub returns-clause-open : goal.returns-clause-open
returns-clause-open c = open_pushes_commit_what_is_decided
