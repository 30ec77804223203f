use Rattle.replqueue.proofs.Upkeep.{kept_without}
use Rattle.replqueue.proofs.queue.Queue.remove.Goals as goal

pub invariant_of-self : goal.invariant_of-self
invariant_of-self c =
    kept_without c.args.job.now.number.0 c.self.inside.rows c.remove.new.self c.self.inside.last
    c.self.inside.pairs c.self.inside.targets c.self.inside.running c.unmark.new.self
    c.unmark-2.new.self c.unmark-3.new.self
    c.remove.ensures.value c.remove.ensures.ascend c.unmark.ensures c.unmark-2.ensures
    c.unmark-3.ensures c.self.invariant
