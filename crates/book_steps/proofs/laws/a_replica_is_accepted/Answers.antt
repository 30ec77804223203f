use Rattle.book_steps.proofs.Accepting.{a_replica_is_accepted}
use Rattle.book_steps.proofs.laws.a_replica_is_accepted.Goals as goal

pub returns : goal.returns
returns c = a_replica_is_accepted
