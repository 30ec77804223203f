use Rattle.std.proofs.Common.{is_some}
use Rattle.node_calls.specs.Reads.{IsSnapshot}
use Rattle.nodes.proofs.Deliveries.{read}
use Rattle.nodes.proofs.nodes.Nodes.snapshot.Goals as goal

pub returns : goal.returns
returns c =
    read c.self.inside.shelves.items (λ shelf. shelf.replicas.entries)
    (is_some c.self.inside.ready) c.args.self.now c.self.view_is c.args.storage c.requires
    c.args.path.now c.index_mut-shelf.result.now c.snapshot.new.self
    c.index_mut-shelf.ensures.value
    IsSnapshot c.told.result c.snapshot.result c.told.ensures c.snapshot.ensures.ends
