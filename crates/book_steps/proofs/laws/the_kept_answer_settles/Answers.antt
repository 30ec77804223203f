use Rattle.book_steps.proofs.Settling.{the_kept_answer_settles}
use Rattle.book_steps.proofs.laws.the_kept_answer_settles.Goals as goal

pub returns : goal.returns
returns c = the_kept_answer_settles
