use Rattle.std.proofs.Common.{is_some}
use Rattle.node_calls.specs.Calls.{AbortRefuses, Aborts}
use Rattle.nodes.proofs.Deliveries.{delivered}
use Rattle.nodes.proofs.nodes.Nodes.abort.Goals as goal

pub returns : goal.returns
returns c =
    delivered c.self.inside.shelves.items (λ shelf. shelf.replicas.entries)
    (is_some c.self.inside.ready) c.args.self.now c.self.view_is c.args.storage c.requires
    c.args.path.now c.index_mut-shelf.result.now c.abort.new.self
    c.index_mut-shelf.ensures.value
    (AbortRefuses c.args.lease) (Aborts c.args.lease) _
    c.told.result c.abort.result c.told.ensures c.abort.ensures.ends c.abort.ensures.err
