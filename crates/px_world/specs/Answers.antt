-- What is answered where a node does not do what it is told.
use Rattle.std.specs.Prelude.{◌≡◌, Result, Ok, Err}
use Rattle.std.specs.declared.alloc.AllocError.{AllocError}
use Rattle.px_ops.specs.declared.refusal.Refusal.TheVariants.{Node}
use Rattle.px_ops.specs.declared.reply.Reply.TheVariants.{Refused as Refusing}
use Rattle.nodes.specs.declared.fault.NodeFault.{NodeFault}
use Rattle.nodes.specs.declared.fault.NodeFault.TheVariants.{Refused, Memory}
use Rattle.script_rules.specs.declared.answer.Answer.{Answer}
use Rattle.script_rules.specs.declared.answer.Answer.TheVariants.{Replied}

-- its refusal; want of memory is none
abbrev pub IsRefusal : NodeFault → Result Answer AllocError → Type 0
IsRefusal (Refused why) (Ok answer) = answer ≡ Replied (Refusing (Node why))
IsRefusal (Refused why) (Err wants) = ⊥
IsRefusal Memory (Ok answer) = ⊥
IsRefusal Memory (Err wants) = Unit {0}
