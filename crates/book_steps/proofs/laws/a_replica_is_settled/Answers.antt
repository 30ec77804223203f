use Rattle.book_steps.proofs.Settling.{a_replica_is_settled}
use Rattle.book_steps.proofs.laws.a_replica_is_settled.Goals as goal

pub returns : goal.returns
returns c = a_replica_is_settled
