-- What an operation does, refuses, or leaves where memory wants.
use Rattle.std.specs.Prelude.{◌≡◌, Option, None, Some, Result, Ok, Err}
use Rattle.px_ops.specs.declared.op.Op.{Op}
use Rattle.px_ops.specs.declared.refusal.Refusal.{Refusal}
use Rattle.px_ops.specs.declared.reply.Reply.{Reply}
use Rattle.px_cluster.specs.Core.{Core}
use Rattle.px_cluster.specs.Ops.{answer_of, left_by, refusal_of}
use Rattle.px_core.specs.declared.fault.Fault.{Fault}
use Rattle.px_core.specs.declared.fault.Fault.TheVariants.{Refused, Memory}

-- the operation led from old to new, and was answered so
pub record IsDone (old : Core) (asked : Op) (reply : Reply) (new : Core) : Type 0 where
  pub accepted : refusal_of old asked ≡ None
  pub answers : reply ≡ answer_of old asked
  pub leads : new ≡ left_by old asked

abbrev pub Steps : Core → Op → Result Reply Fault → Core → Type 0
Steps old asked (Ok reply) new = IsDone old asked reply new
Steps old asked (Err (Refused why)) new = (refusal_of old asked ≡ Some why) × (new ≡ old)
Steps old asked (Err Memory) new = new ≡ old

-- a refusal has its cause; want of memory needs none
abbrev pub IsCause : Option Refusal → Fault → Type 0
IsCause cause (Refused why) = cause ≡ Some why
IsCause cause Memory = Unit {0}
