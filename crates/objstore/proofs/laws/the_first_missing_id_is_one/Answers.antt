-- Two of them are taken in one step.
use Rattle.objstore.proofs.FirstLemmas.{one_first}
use Rattle.objstore.proofs.laws.the_first_missing_id_is_one.Goals as goal

pub returns : goal.returns
returns c = λ objects tips id other first second. one_first objects tips id other first second
