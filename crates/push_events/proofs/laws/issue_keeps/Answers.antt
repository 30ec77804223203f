use Rattle.push_events.proofs.Issue.{issue_keeps}
use Rattle.push_events.proofs.laws.issue_keeps.Goals as goal

pub returns : goal.returns
returns c = issue_keeps
