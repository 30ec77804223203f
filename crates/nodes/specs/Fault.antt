-- The answer of a node whose keeper never fails.
use Rattle.std.specs.Prelude.{Result, Ok, Err}
use Rattle.node_calls.specs.declared.node.NodeError.{NodeError}
use Rattle.node_calls.specs.declared.node.NodeError.TheVariants as node
use Rattle.nodes.specs.declared.fault.NodeFault.{NodeFault}
use Rattle.nodes.specs.declared.fault.NodeFault.TheVariants.{Memory, Refused}

-- what the node answered
abbrev pub answer_of : {A : Type 0} → Result A NodeFault → Result A NodeError
answer_of (Ok answer) = Ok answer
answer_of (Err (Refused why)) = Err (node.Refused why)
answer_of (Err Memory) = Err node.Memory
