use Rattle.std.proofs.Common.{is_some}
use Rattle.nodes.proofs.Deliveries.{fenced}
use Rattle.nodes.proofs.nodes.Nodes.fence.Goals as goal

pub returns : goal.returns
returns c =
    fenced c.self.inside.shelves.items (λ shelf. shelf.replicas.entries)
    (is_some c.self.inside.ready) c.args.self.now c.self.view_is c.args.storage c.requires
    c.args.path.now c.index_mut-shelf.result.now c.fence.new.self
    c.index_mut-shelf.ensures.value
    c.args.lease _ c.told.result c.fence.result c.told.ensures c.fence.ensures.ends
    c.fence.ensures.fault
