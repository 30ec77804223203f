use Rattle.object_format.proofs.FirstBad.{fault_is_first, first_is_fault}
use Rattle.object_format.proofs.laws.a_fault_is_the_first_bad_byte.Goals as goal

pub returns : goal.returns
returns c = λ kind content at. (fault_is_first kind content at, first_is_fault kind content at)
