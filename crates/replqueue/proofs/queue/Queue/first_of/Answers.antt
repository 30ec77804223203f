use Rattle.replqueue.proofs.Upkeep.{pair_marked}
use Rattle.replqueue.proofs.queue.Queue.first_of.Goals as goal

pub first-requires : goal.first-requires
first-requires c = pair_marked c.args.pair.now c.pair_line-line.result c.self.inside.pairs
    c.self.inside.rows c.pair_line-line.ensures c.self.invariant.pairs
