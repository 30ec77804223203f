-- Nothing was told yet.
use Rattle.px_node.proofs.OpeningLemmas.{nothing_had, nothing_told}
use Rattle.px_node.proofs.opening.Told.new.Goals as goal

pub returns-clause-none : goal.returns-clause-none
returns-clause-none c = nothing_had c.new.result.entries c.new.ensures.empty

pub returns-clause-told : goal.returns-clause-told
returns-clause-told c = nothing_told c.new.result.entries c.new.ensures.empty
