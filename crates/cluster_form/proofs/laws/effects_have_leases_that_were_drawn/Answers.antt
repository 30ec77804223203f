use Rattle.cluster_form.proofs.FormKept.{leases_always}
use Rattle.cluster_form.proofs.laws.effects_have_leases_that_were_drawn.Goals as goal

pub returns : goal.returns
returns c = leases_always
