use Rattle.std.proofs.Common.{ℕ, ap, sym, ◌∙◌}
use Rattle.px_node.proofs.KnownLemmas.{prepare_known}
use Rattle.px_node.proofs.ShelfLemmas.{rows_prepared}
use Rattle.px_node.specs.Shelf.{place_at}
use Rattle.node_replica.specs.Prepared.{push_in}
use Rattle.node_rows.specs.Writes.{fenced_rows}
use Rattle.px_node.proofs.shelf.ShelfNode.prepare.Goals as goal

pub invariant_of-self-2 : goal.invariant_of-self-2
invariant_of-self-2 g c =
    let self = c.args.self.now in
    let place = c.find-replica.result.now in
    let ready = c.in-Ok.ready in
    let is = c.in-Ok.ensures.ok in
    record {
      rows_stand = rows_prepared (g.K.Keeper.rows self.keeper)
          (g.K.Keeper.rows c.keep_rows.new.keeper) (place_at self.replicas.entries)
          (place_at c.keep_rows.new.replicas.entries) (place_at c.prepare.new.replicas.entries)
          c.args.repo.now place c.in_ok-batch.batch
          (record {
            stand = self.rows_stand;
            same = c.keep_rows.ensures.same;
            here = c.find-replica.ensures;
            lawful = c.in_ok-batch.ensures.path;
            kept_ = c.in_ok-keep_rows.ensures.kept;
          })
          ready.lease (push_in ready) is.at.above is.at.held
          (c.in_ok-batch.ensures.batch
          ∙ ap (λ (n : ℕ). fenced_rows c.args.repo.now n place)
          (c.number.ensures.value ∙ sym is.lease_is)) c.prepare.ensures.changes;
      lawful = c.prepare.ensures.lawful (c.keep_rows.ensures.lawful self.lawful);
    }

pub returns-in-Err-clause-known : goal.returns-in-Err-clause-known
returns-in-Err-clause-known g c =
    prepare_known c.args.lease c.args.push.now c.find-replica.result.now c.in-Err.error
    c.in-Err.ensures.err
