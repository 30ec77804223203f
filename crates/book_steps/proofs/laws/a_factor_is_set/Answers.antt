use Rattle.book_steps.proofs.Factor.{a_factor_is_set}
use Rattle.book_steps.proofs.laws.a_factor_is_set.Goals as goal

pub returns : goal.returns
returns c = a_factor_is_set
