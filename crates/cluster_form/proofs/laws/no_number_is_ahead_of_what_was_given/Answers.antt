use Rattle.cluster_form.proofs.FormKept.{within_always}
use Rattle.cluster_form.proofs.laws.no_number_is_ahead_of_what_was_given.Goals as goal

pub returns : goal.returns
returns c = within_always
