use Rattle.std.proofs.Common.{◌≡◌, map, take, drop, ◌++◌}
use Rattle.genbook.specs.Changes.{changed_on}
use Rattle.genbook.proofs.replicas.change_on.Given as goal

abbrev pub invariant-loop-replica : goal.invariant-loop-replica
invariant-loop-replica l = l.replicas ≡ map (changed_on l.storage.0 l.change) (take l.replica-index l.initial.replicas) ++ drop l.replica-index l.initial.replicas
