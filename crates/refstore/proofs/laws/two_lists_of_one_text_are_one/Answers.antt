use Rattle.refstore.proofs.OneList.{one_list}
use Rattle.refstore.proofs.laws.two_lists_of_one_text_are_one.Goals as goal

pub returns : goal.returns
returns c = one_list
