use Rattle.std.proofs.Common.{ℕ, refl, ap, ◌∙◌}
use Rattle.px_node.proofs.ShelfLemmas.{rows_raised}
use Rattle.px_node.specs.Shelf.{place_at}
use Rattle.node_rows.specs.Writes.{fenced_rows}
use Rattle.px_node.proofs.shelf.Shelf.raise.Goals as goal

pub invariant_of-self-2 : goal.invariant_of-self-2
invariant_of-self-2 g c =
    let self = c.args.self.now in
    let place = c.find-replica.result.now in
    record {
      rows_stand = rows_raised (g.K.Keeper.rows self.keeper)
          (g.K.Keeper.rows c.keep_rows.new.keeper) (place_at self.replicas.entries)
          (place_at c.keep_rows.new.replicas.entries) (place_at c.raise.new.replicas.entries)
          c.args.repo.now place c.in_ok-batch.batch
          (record {
            stand = self.rows_stand;
            same = c.keep_rows.ensures.same;
            here = c.find-replica.ensures;
            lawful = c.in_ok-batch.ensures.path;
            kept_ = c.in_ok-keep_rows.ensures.kept;
          })
          c.args.lease (c.if-not-is_below.ensures.below refl)
          (c.in_ok-batch.ensures.batch
          ∙ ap (λ (n : ℕ). fenced_rows c.args.repo.now n place) c.number.ensures.value) c.raise.ensures.changes;
      lawful = c.raise.ensures.lawful (c.keep_rows.ensures.lawful self.lawful);
    }
