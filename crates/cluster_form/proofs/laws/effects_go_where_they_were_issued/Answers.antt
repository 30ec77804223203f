use Rattle.cluster_form.proofs.FormKept.{routes_always}
use Rattle.cluster_form.proofs.laws.effects_go_where_they_were_issued.Goals as goal

pub returns : goal.returns
returns c = routes_always
