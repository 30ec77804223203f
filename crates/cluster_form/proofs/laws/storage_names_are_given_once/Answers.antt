use Rattle.cluster_form.proofs.FormKept.{tables_always}
use Rattle.cluster_form.proofs.laws.storage_names_are_given_once.Goals as goal

pub returns : goal.returns
returns c = tables_always
