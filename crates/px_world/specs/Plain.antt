-- Which operations speak of no node.
use Rattle.std.specs.Prelude.{true}
use Rattle.px_base.specs.declared.phase.Phase.TheVariants.{Committed}
use Rattle.px_ops.specs.declared.op.Op.{Op}
use Rattle.px_ops.specs.declared.op.Op.TheVariants as op

-- nothing is issued by it, it tells of no node's answer, and it admits no storage
abbrev pub IsPlain : Op → Type 0
IsPlain (op.Admit virt name) = ⊥
IsPlain (op.Create virt path factor) = ⊥
IsPlain (op.Enrol repo storage lease) = ⊥
IsPlain (op.Cast tx voter Committed hash) = ⊥
IsPlain (op.Begin repo) = ⊥
IsPlain (op.Collect tx voter sub) = ⊥
IsPlain (op.Dequeue target now) = ⊥
IsPlain (op.Ack job lease true) = ⊥
IsPlain (op.AcceptBegin repo storage) = ⊥
IsPlain (op.Accept repo storage lease) = ⊥
IsPlain (op.SettleBegin repo storage) = ⊥
IsPlain (op.Settle repo storage lease last) = ⊥
IsPlain other = Unit {0}
