use Rattle.px_cluster.proofs.Refusing.{changes_nothing}
use Rattle.px_cluster.proofs.laws.a_refusal_changes_nothing.Goals as goal

pub returns : goal.returns
returns c = changes_nothing
