use Rattle.std.proofs.Common.{◌-◌, length, take}
use Rattle.px_cluster.specs.Plan.{planned_from}
use Rattle.reconciler.specs.Known.{core_with}
use Rattle.reconciler.specs.Listed.{Adds}
use Rattle.reconciler.proofs.planning.list_all.Given as goal

-- what is planned of the repositories so far is listed
abbrev pub invariant-loop-repository : goal.invariant-loop-repository
invariant-loop-repository l = Adds (planned_from (core_with l.known l.queue) 0
    (take l.number l.known.book.now.repositories)) l.fn.listed l.listed

abbrev pub decreases-loop-repository : goal.decreases-loop-repository
decreases-loop-repository l = length l.known.book.now.repositories - l.number
