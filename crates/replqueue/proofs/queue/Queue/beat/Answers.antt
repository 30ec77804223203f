use Rattle.std.proofs.Common.{inl, refl}
use Rattle.replqueue.proofs.OneJob.{working_holds}
use Rattle.replqueue.proofs.queue.Queue.beat.Goals as goal

pub replace-requires : goal.replace-requires
replace-requires c =
    let held = c.in-Ok.ensures.ok.held in
    rw c.beaten.ensures (record {
      before = c.in-Ok.row;
      found = held.found;
      repo = refl;
      target = refl;
      lock = λ any. working_holds c.in-Ok.row.state held.works;
      room = λ any. inl held.works;
    })
