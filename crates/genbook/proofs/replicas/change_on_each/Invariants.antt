use Rattle.std.proofs.Common.{◌≡◌, map, take, drop, ◌++◌}
use Rattle.genbook.specs.Changes.{changed_on_each}
use Rattle.genbook.proofs.replicas.change_on_each.Given as goal

abbrev pub invariant-loop-replica : goal.invariant-loop-replica
invariant-loop-replica l = l.replicas ≡ map (changed_on_each l.storages l.change) (take l.replica-index l.initial.replicas) ++ drop l.replica-index l.initial.replicas
