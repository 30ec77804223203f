use Rattle.push_events.proofs.Commit.{commit_keeps}
use Rattle.push_events.proofs.laws.commit_keeps.Goals as goal

pub returns : goal.returns
returns c = commit_keeps
