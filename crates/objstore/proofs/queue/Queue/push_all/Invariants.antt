use Rattle.std.proofs.Common.{◌≡◌, drop}
use Rattle.objstore.specs.Walk.{all_queued}
use Rattle.objstore.proofs.queue.Queue.push_all.Given as goal

-- those that are left lead to what all lead to
abbrev pub invariant-loop-id : goal.invariant-loop-id
invariant-loop-id l = all_queued l.self (drop l.id-index l.ids) ≡ all_queued l.fn.self l.ids
