use Rattle.std.proofs.Common.{Result, Ok, Err, sym, subst}
use Rattle.std.specs.declared.alloc.AllocError.{AllocError}
use Rattle.px_base.specs.declared.ids.JobId.{JobId}
use Rattle.px_base.specs.declared.lease.Lease.{Lease}
use Rattle.px_cluster.specs.Events as cluster
use Rattle.px_script.specs.declared.event.Event.TheVariants as script
use Rattle.script_rules.specs.declared.answer.Answer.{Answer}
use Rattle.px_world.specs.Tries.{Happens, Tries}
use Rattle.px_world.specs.World.{Kept}
use Rattle.px_world.proofs.world.World.step.Goals as goal

-- an apply names no storage
applied : (old new : Kept) (job : JobId) (lease : Lease) (result : Result Answer AllocError)
    → Happens old (cluster.Apply job.0 lease) result new
    → Tries old (script.Apply job lease) result new
applied old new job lease (Ok answer) happens = happens
applied old new job lease (Err wants) same = same

pub returns-in-Apply : goal.returns-in-Apply
returns-in-Apply c =
    subst (λ event. Tries c.args.self.now event c.apply_for.result c.apply_for.new.self)
    (sym c.in-Apply.is)
    (applied c.args.self.now c.apply_for.new.self c.in-Apply.job c.in-Apply.lease
    c.apply_for.result c.apply_for.ensures)
