use Rattle.std.proofs.Common.{◌≡◌, map, take, drop, ◌++◌}
use Rattle.genbook.specs.Changes.{assigned_among, numbers_of}
use Rattle.genbook.proofs.replicas.assign.Given as goal

abbrev pub invariant-loop-replica : goal.invariant-loop-replica
invariant-loop-replica l = l.replicas ≡ map (assigned_among (numbers_of l.storages)) (take l.replica-index l.initial.replicas) ++ drop l.replica-index l.initial.replicas
