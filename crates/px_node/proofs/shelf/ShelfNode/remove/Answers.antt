use Rattle.px_node.proofs.ShelfLemmas.{admits, rows_removed}
use Rattle.px_node.specs.Shelf.{place_at}
use Rattle.px_node.proofs.shelf.ShelfNode.remove.Goals as goal

pub invariant_of-self-2 : goal.invariant_of-self-2
invariant_of-self-2 g c =
    let self = c.args.self.now in
    let place = c.find-replica.result.now in
    record {
      rows_stand = rows_removed (g.K.Keeper.rows self.keeper)
          (g.K.Keeper.rows c.keep_rows.new.keeper) (place_at self.replicas.entries)
          (place_at c.keep_rows.new.replicas.entries) (place_at c.remove.new.replicas.entries)
          c.args.repo.now place c.in_ok-batch.batch
          (record {
            stand = self.rows_stand;
            same = c.keep_rows.ensures.same;
            here = c.find-replica.ensures;
            lawful = c.in_ok-batch.ensures.path;
            kept_ = c.in_ok-keep_rows.ensures.kept;
          })
          c.args.lease (admits c.args.lease place c.in_ok-admits.ensures)
          c.in_ok-batch.ensures.batch c.remove.ensures.changes;
      lawful = c.remove.ensures.lawful (c.keep_rows.ensures.lawful self.lawful);
    }
