use Rattle.std.proofs.Common.{is_some}
use Rattle.node_calls.specs.Calls.{PrepareRefuses, Prepares}
use Rattle.nodes.proofs.Deliveries.{delivered}
use Rattle.nodes.proofs.nodes.Nodes.prepare_push.Goals as goal

pub returns : goal.returns
returns c =
    delivered c.self.inside.shelves.items (λ shelf. shelf.replicas.entries)
    (is_some c.self.inside.ready) c.args.self.now c.self.view_is c.args.storage c.requires
    c.args.path.now c.index_mut-shelf.result.now c.prepare.new.self
    c.index_mut-shelf.ensures.value
    (PrepareRefuses c.args.lease c.args.push.now) (Prepares c.args.lease c.args.push.now) _
    c.told.result c.prepare.result c.told.ensures c.prepare.ensures.ends c.prepare.ensures.err
