use Rattle.std.proofs.Common.{is_some}
use Rattle.node_calls.specs.Calls.{CommitRefuses, Commits}
use Rattle.nodes.proofs.Deliveries.{delivered}
use Rattle.nodes.proofs.nodes.Nodes.commit.Goals as goal

pub returns : goal.returns
returns c =
    delivered c.self.inside.shelves.items (λ shelf. shelf.replicas.entries)
    (is_some c.self.inside.ready) c.args.self.now c.self.view_is c.args.storage c.requires
    c.args.path.now c.index_mut-shelf.result.now c.commit.new.self
    c.index_mut-shelf.ensures.value
    (CommitRefuses c.args.lease c.args.verdict.now.hash) (Commits c.args.lease c.args.verdict.now.hash) _
    c.told.result c.commit.result c.told.ensures c.commit.ensures.ends c.commit.ensures.err
