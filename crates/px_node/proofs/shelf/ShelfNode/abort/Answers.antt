use Rattle.std.proofs.Common.{◌+◌, ℕ, ap, ◌∙◌}
use Rattle.px_node.proofs.ShelfLemmas.{admits_first, rows_aborted}
use Rattle.node_calls.specs.Calls.{not_held}
use Rattle.px_node.specs.Shelf.{place_at}
use Rattle.node_rows.specs.Writes.{fenced_rows}
use Rattle.px_node.proofs.shelf.ShelfNode.abort.Goals as goal

pub invariant_of-self-2 : goal.invariant_of-self-2
invariant_of-self-2 g c =
    let self = c.args.self.now in
    let place = c.find-replica.result.now in
    record {
      rows_stand = rows_aborted (g.K.Keeper.rows self.keeper)
          (g.K.Keeper.rows c.keep_rows.new.keeper) (place_at self.replicas.entries)
          (place_at c.keep_rows.new.replicas.entries) (place_at c.abort.new.replicas.entries)
          c.args.repo.now place c.in_ok-batch.batch
          (record {
            stand = self.rows_stand;
            same = c.keep_rows.ensures.same;
            here = c.find-replica.ensures;
            lawful = c.in_ok-batch.ensures.path;
            kept_ = c.in_ok-keep_rows.ensures.kept;
          })
          c.args.lease
          (admits_first c.args.lease place (not_held place) c.in_ok-may_abort.ensures)
          (c.in_ok-batch.ensures.batch
          ∙ ap (λ (n : ℕ). fenced_rows c.args.repo.now (n + 1) place) c.number.ensures.value) c.abort.ensures.changes;
      lawful = c.abort.ensures.lawful (c.keep_rows.ensures.lawful self.lawful);
    }
