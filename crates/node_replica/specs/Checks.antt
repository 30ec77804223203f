-- What a test of a call's causes answers.
use Rattle.std.specs.Prelude.{◌≡◌, true, false, Option, None, Some, Result, Ok, Err}
use Rattle.node_calls.specs.declared.node.NodeError.{NodeError}
use Rattle.node_calls.specs.declared.node.NodeError.TheVariants.{Fault, Memory, Refused}
use Rattle.node_calls.specs.ReplicaState.{ReplicaState}
use Rattle.px_ops.specs.declared.node_refusal.NodeRefusal.{NodeRefusal}
use Rattle.px_ops.specs.declared.node_refusal.NodeRefusal.TheVariants.{NoRepo}

-- the error is that refusal, or memory wants; a test never faults
abbrev pub IsCause : Option NodeRefusal → NodeError → Type 0
IsCause cause (Refused r) = cause ≡ Some r
IsCause cause Memory = Unit {0}
IsCause cause Fault = ⊥

-- it passes where no cause holds, and names the first one else
abbrev pub Tests : {A : Type 0} → Option NodeRefusal → Result A NodeError → Type 0
Tests cause (Ok answer) = cause ≡ None
Tests cause (Err e) = IsCause cause e

-- the error is none of the rules: a fault, or want of memory
abbrev pub IsNoRefusal : NodeError → Type 0
IsNoRefusal (Refused r) = ⊥
IsNoRefusal Fault = Unit {0}
IsNoRefusal Memory = Unit {0}

-- the error is a refusal
abbrev pub IsRefusal : NodeError → Type 0
IsRefusal (Refused r) = Unit {0}
IsRefusal Fault = ⊥
IsRefusal Memory = ⊥

-- the error is no fault: a refusal, or want of memory
abbrev pub IsNotFault : NodeError → Type 0
IsNotFault (Refused r) = Unit {0}
IsNotFault Fault = ⊥
IsNotFault Memory = Unit {0}

-- a reading answers where the repository is held, and is refused where it is not
abbrev pub Reads : {A : Type 0} → (ReplicaState → A → Type 0) → ReplicaState → Result A NodeError → Type 0
Reads IsAnswer place (Ok answer) = (place.held ≡ true) × IsAnswer place answer
Reads IsAnswer place (Err (Refused r)) = (place.held ≡ false) × (r ≡ NoRepo)
Reads IsAnswer place (Err Memory) = Unit {0}
Reads IsAnswer place (Err Fault) = ⊥
