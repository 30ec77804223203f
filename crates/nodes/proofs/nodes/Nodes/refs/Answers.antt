use Rattle.std.proofs.Common.{is_some}
use Rattle.node_calls.specs.Reads.{HasRefs}
use Rattle.nodes.proofs.Deliveries.{read}
use Rattle.nodes.proofs.nodes.Nodes.refs.Goals as goal

pub returns : goal.returns
returns c =
    read c.self.inside.shelves.items (λ shelf. shelf.replicas.entries)
    (is_some c.self.inside.ready) c.args.self.now c.self.view_is c.args.storage c.requires
    c.args.path.now c.index_mut-shelf.result.now c.refs.new.self
    c.index_mut-shelf.ensures.value
    HasRefs c.told.result c.refs.result c.told.ensures c.refs.ensures.ends
