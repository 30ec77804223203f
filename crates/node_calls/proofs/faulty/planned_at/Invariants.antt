use Rattle.std.proofs.Common.{◌≡◌, ◌==◌, drop}
use Rattle.std.specs.List.{find}
use Rattle.node_calls.specs.declared.faulty.PlannedFault.{PlannedFault}
use Rattle.node_calls.proofs.faulty.planned_at.Given as goal

-- the first that names the call is the first of those that are left
abbrev pub invariant-loop-fault : goal.invariant-loop-fault
invariant-loop-fault l =
    find (λ (fault : PlannedFault). fault.call == l.call) (drop l.fault-index l.planned)
    ≡ find (λ (fault : PlannedFault). fault.call == l.call) l.planned
