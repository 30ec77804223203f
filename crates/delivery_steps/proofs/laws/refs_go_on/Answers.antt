use Rattle.delivery_steps.proofs.Refs.{refs_go}
use Rattle.delivery_steps.proofs.laws.refs_go_on.Goals as goal

pub returns : goal.returns
returns c = refs_go
