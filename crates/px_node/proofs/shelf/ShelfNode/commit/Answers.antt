use Rattle.std.proofs.Common.{refl}
use Rattle.px_node.proofs.ShelfLemmas.{admits_first, held_second, rows_after_commit}
use Rattle.px_node.specs.Shelf.{place_at}
use Rattle.node_calls.specs.Calls.{commit_fault, not_held, ready_under}
use Rattle.std.specs.Option.{option_or}
use Rattle.px_node.proofs.shelf.ShelfNode.commit.Goals as goal

pub invariant_of-self-2 : goal.invariant_of-self-2
invariant_of-self-2 g c =
    let self = c.args.self.now in
    let place = c.find-replica.result.now in
    let more = commit_fault c.hash.result (ready_under c.args.lease place.ready) in
    let old = place_at self.replicas.entries in
    let none = c.in_ok-may_commit.ensures in
    record {
      rows_stand = rows_after_commit (g.K.Keeper.rows self.keeper)
          (g.K.Keeper.rows c.commit.new.keeper) old old (place_at c.commit.new.replicas.entries)
          c.args.repo.now place c.in_ok-batch.batch self.rows_stand (λ path. refl)
          c.find-replica.ensures c.in_ok-batch.ensures.path c.args.lease
          (admits_first c.args.lease place (option_or (not_held place) more) none) c.commit.result
          (held_second c.args.lease place more none) c.in_ok-batch.ensures.rows
          c.in_ok-batch.ensures.ready c.commit.ensures.ok c.commit.ensures.kept c.commit.ensures.err
          c.commit.ensures.err_rows;
      lawful = c.commit.ensures.lawful self.lawful;
    }
