use Rattle.std.proofs.Common.{◌≡◌, map, take, drop, ◌++◌}
use Rattle.px_cluster.specs.Creating.{assigned_under}
use Rattle.genbook.specs.Changes.{numbers_of}
use Rattle.genbook.proofs.replicas.assign_under.Given as goal

abbrev pub invariant-loop-replica : goal.invariant-loop-replica
invariant-loop-replica l = l.replicas ≡ map (assigned_under (numbers_of l.storages) l.lease) (take l.replica-index l.initial.replicas) ++ drop l.replica-index l.initial.replicas
