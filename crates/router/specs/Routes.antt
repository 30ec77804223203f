-- Why a push is not routed, and the storages that its parts have.
use Rattle.std.specs.Prelude.{◌<◌, ◌^◌, length, Option, None, Some}
use Rattle.px_ops.specs.declared.refusal.Refusal.{Refusal}
use Rattle.px_cluster.specs.Book.{Repository}
use Rattle.router.specs.declared.push_fault.PushFault.{PushFault}
use Rattle.router.specs.declared.push_fault.PushFault.TheVariants.{Memory, Refused}

-- the push is refused, where there is a cause, and else it is memory that wants
abbrev pub fault_for : Option Refusal → PushFault
fault_for None = Memory
fault_for (Some why) = Refused why

-- a reply can say how many replicas there are
abbrev pub AreFew : Repository → Type 0
AreFew repo = length repo.replicas < 2 ^ 32
