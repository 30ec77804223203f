use Rattle.delivery_steps.proofs.Commit.{commit_goes, unanswered_commit_goes}
use Rattle.delivery_steps.proofs.laws.commit_goes_on.Goals as goal

pub returns : goal.returns
returns c = record { answered = commit_goes; unanswered = unanswered_commit_goes }
