use Rattle.std.proofs.Common.{is_some}
use Rattle.node_calls.specs.Calls.{CreateRefuses, Creates}
use Rattle.nodes.proofs.Deliveries.{delivered}
use Rattle.nodes.proofs.nodes.Nodes.make.Goals as goal

pub returns : goal.returns
returns c =
    delivered c.self.inside.shelves.items (λ shelf. shelf.replicas.entries)
    (is_some c.self.inside.ready) c.args.self.now c.self.view_is c.args.storage c.requires
    c.args.path.now c.index_mut-shelf.result.now c.create.new.self
    c.index_mut-shelf.ensures.value
    (CreateRefuses c.args.lease) (Creates c.args.lease) _
    c.told.result c.create.result c.told.ensures c.create.ensures.ends c.create.ensures.err
