use Rattle.push_events.proofs.Votes.{votes_keep}
use Rattle.push_events.proofs.laws.votes_keep.Goals as goal

pub returns : goal.returns
returns c = votes_keep
