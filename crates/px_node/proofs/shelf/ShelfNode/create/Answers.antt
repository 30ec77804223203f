use Rattle.px_node.proofs.ShelfLemmas.{create_admits, rows_created}
use Rattle.px_node.specs.Shelf.{place_at}
use Rattle.px_node.proofs.shelf.ShelfNode.create.Goals as goal

pub invariant_of-self-2 : goal.invariant_of-self-2
invariant_of-self-2 g c =
    let self = c.args.self.now in
    let place = c.find-replica.result.now in
    record {
      rows_stand = rows_created (g.K.Keeper.rows self.keeper)
          (g.K.Keeper.rows c.keep_rows.new.keeper) (place_at self.replicas.entries)
          (place_at c.keep_rows.new.replicas.entries) (place_at c.create.new.replicas.entries)
          c.args.repo.now place c.in_ok-batch.batch
          (record {
            stand = self.rows_stand;
            same = c.keep_rows.ensures.same;
            here = c.find-replica.ensures;
            lawful = c.in_ok-batch.ensures.path;
            kept_ = c.in_ok-keep_rows.ensures.kept;
          })
          c.args.lease (create_admits c.args.lease place c.in_ok-may_create.ensures)
          c.in_ok-batch.ensures.batch c.create.ensures.changes;
      lawful = c.create.ensures.lawful (c.keep_rows.ensures.lawful self.lawful);
    }
