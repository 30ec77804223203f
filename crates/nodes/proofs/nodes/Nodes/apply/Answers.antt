use Rattle.std.proofs.Common.{is_some}
use Rattle.node_calls.specs.Calls.{ApplyRefuses, Applies}
use Rattle.nodes.proofs.Deliveries.{delivered}
use Rattle.nodes.proofs.nodes.Nodes.apply.Goals as goal

pub returns : goal.returns
returns c =
    delivered c.self.inside.shelves.items (λ shelf. shelf.replicas.entries)
    (is_some c.self.inside.ready) c.args.self.now c.self.view_is c.args.storage c.requires
    c.args.path.now c.index_mut-shelf.result.now c.apply.new.self
    c.index_mut-shelf.ensures.value
    (ApplyRefuses c.args.lease c.args.snapshot.now) (Applies c.args.lease c.args.snapshot.now) _
    c.told.result c.apply.result c.told.ensures c.apply.ensures.ends c.apply.ensures.err
