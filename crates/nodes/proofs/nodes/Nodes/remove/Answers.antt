use Rattle.std.proofs.Common.{is_some}
use Rattle.node_calls.specs.Calls.{RemoveRefuses, Removes}
use Rattle.nodes.proofs.Deliveries.{delivered}
use Rattle.nodes.proofs.nodes.Nodes.remove.Goals as goal

pub returns : goal.returns
returns c =
    delivered c.self.inside.shelves.items (λ shelf. shelf.replicas.entries)
    (is_some c.self.inside.ready) c.args.self.now c.self.view_is c.args.storage c.requires
    c.args.path.now c.index_mut-shelf.result.now c.remove.new.self
    c.index_mut-shelf.ensures.value
    (RemoveRefuses c.args.lease) (Removes c.args.lease) _
    c.told.result c.remove.result c.told.ensures c.remove.ensures.ends c.remove.ensures.err
