-- Which operations the core has, and which of them take no memory.
use Rattle.px_ops.specs.declared.op.Op.{Op}
use Rattle.px_ops.specs.declared.op.Op.TheVariants as op

-- those on storages, repositories and jobs
abbrev pub IsOnBook : Op → Type 0
IsOnBook (op.Admit virt name) = Unit {0}
IsOnBook (op.Health storage up) = Unit {0}
IsOnBook (op.Create virt path factor) = Unit {0}
IsOnBook (op.Enrol repo storage lease) = Unit {0}
IsOnBook (op.Dequeue target now) = Unit {0}
IsOnBook (op.Beat job lease now) = Unit {0}
IsOnBook (op.Ack job lease good) = Unit {0}
IsOnBook (op.Stale now after) = Unit {0}
IsOnBook (op.Reconcile only) = Unit {0}
IsOnBook (op.SetFactor repo factor) = Unit {0}
IsOnBook (op.AcceptBegin repo storage) = Unit {0}
IsOnBook (op.Accept repo storage lease) = Unit {0}
IsOnBook (op.SettleBegin repo storage) = Unit {0}
IsOnBook (op.Settle repo storage lease last) = Unit {0}
IsOnBook (op.Booked repo) = Unit {0}
IsOnBook (op.Find virt path) = Unit {0}
IsOnBook other = ⊥

-- what is answered also where no memory is left
abbrev pub TakesNone : Op → Type 0
TakesNone (op.Health storage up) = Unit {0}
TakesNone (op.Withdraw tx voter) = Unit {0}
TakesNone (op.Cancel tx) = Unit {0}
TakesNone (op.Stop tx) = Unit {0}
TakesNone (op.Collect tx voter sub) = Unit {0}
TakesNone (op.Outcome tx sub) = Unit {0}
TakesNone (op.Close tx) = Unit {0}
TakesNone (op.Enrol repo storage lease) = Unit {0}
TakesNone (op.Finish tx) = Unit {0}
TakesNone (op.Beat job lease now) = Unit {0}
TakesNone (op.Ack job lease good) = Unit {0}
TakesNone (op.RouteRead repo) = Unit {0}
TakesNone (op.AcceptBegin repo storage) = Unit {0}
TakesNone (op.Accept repo storage lease) = Unit {0}
TakesNone (op.SettleBegin repo storage) = Unit {0}
TakesNone (op.Settle repo storage lease last) = Unit {0}
TakesNone (op.Find virt path) = Unit {0}
TakesNone (op.Holder repo) = Unit {0}
TakesNone other = ⊥
