use Rattle.std.proofs.Common.{take}
use Rattle.std.specs.Prelude.{flat_map}
use Rattle.px_cluster.specs.Plan.{planned_at}
use Rattle.reconciler.specs.Listed.{Adds}
use Rattle.reconciler.specs.Sites.{core_at}
use Rattle.reconciler.proofs.planning.list_for.Given as goal

-- what is planned of the replicas so far is listed
abbrev pub invariant-loop-replica : goal.invariant-loop-replica
invariant-loop-replica l =
    Adds (flat_map (planned_at (core_at l.site) l.site.repo.0 l.site.repository.now)
    (take l.replica-index l.site.repository.now.replicas)) l.fn.listed l.listed
