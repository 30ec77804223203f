-- Nodes that fault at chosen calls.
use Rattle.std.specs.Prelude.{◌≡◌, ◌==◌, ℕ, List, Option, None, Some, Result, Err, IsSome}
use Rattle.std.specs.List.{find}
use Rattle.std.specs.Option.{option_map}
use Rattle.node_calls.specs.Ends.{NodeHasCause}
use Rattle.node_calls.specs.declared.faulty.PlannedFault.{PlannedFault}
use Rattle.node_calls.specs.declared.faulty.When.{When}
use Rattle.node_calls.specs.declared.faulty.When.TheVariants.{Before}
use Rattle.node_calls.specs.declared.node.NodeError.{NodeError}
use Rattle.node_calls.specs.declared.node.NodeError.TheVariants.{Fault}

-- when the call of this number is to fault, if it is: the first of the plan that names it decides
abbrev pub fault_at : List PlannedFault → ℕ → Option When
fault_at plan call = option_map (λ (fault : PlannedFault). fault.when)
    (find (λ (fault : PlannedFault). fault.call == call) plan)

-- a call that is to fault does; before its effect, it leaves the node behind as it was; and another
-- one faults only where the node behind did
pub record KeepsPlan {N A : Type 0} (faults : N → ℕ) (planned : Option When) (old new : N)
    (answer : Result A NodeError) : Type 0 where
  pub fault : IsSome planned → answer ≡ Err Fault
  pub before : planned ≡ Some Before → new ≡ old
  pub other : planned ≡ None → NodeHasCause (faults old) (faults new) answer
