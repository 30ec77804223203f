use Rattle.std.proofs.Common.{subst}
use Rattle.px_ops.specs.declared.op.Op.TheVariants as op
use Rattle.px_ops.specs.declared.reply.Reply.TheVariants as reply
use Rattle.px_cluster.specs.Core.{Core}
use Rattle.px_core.specs.Parts.{core_with}
use Rattle.px_core.specs.Steps.{IsDone}
use Rattle.px_core.proofs.BookOps.{admit_done, done_sound}
use Rattle.px_core.proofs.state.Core.admit.Goals as goal

pub invariant_of-self-2 : goal.invariant_of-self-2
invariant_of-self-2 c =
    let inside = c.self.inside in
    let core = core_with inside.book inside.health.up inside.votes inside.last inside.turns
    inside.reads.items inside.queue in
    let plan = c.in_ok-admission in
    done_sound core _ (op.Admit c.args.virt.now c.args.name.now)
    (reply.Storage plan.admission.storage) c.self.invariant
    (admit_done inside.book c.plan_admit.new.self c.admit.new.self inside.health.up inside.votes
    inside.last inside.turns inside.reads.items inside.queue plan.ensures.same c.args.virt.now
    c.args.name.now
    plan.admission
    c.prepare.new.self c.add.new.self plan.ensures.ok plan.ensures.accepted
    c.admit.ensures.storages c.admit.ensures.repositories c.in_ok-prepare.ensures.list
    c.in_ok-prepare.ensures.ready c.add.ensures)

pub returns : goal.returns
returns c =
    let inside = c.self.inside in
    let plan = c.in_ok-admission in
    subst (λ (known : Core). IsDone known (op.Admit c.args.virt.now c.args.name.now)
    (reply.Storage plan.admission.storage) (core_with c.admit.new.self c.add.new.self.up
    inside.votes inside.last inside.turns inside.reads.items inside.queue)) c.self.view_is
    (admit_done inside.book c.plan_admit.new.self c.admit.new.self inside.health.up inside.votes
    inside.last inside.turns inside.reads.items inside.queue plan.ensures.same c.args.virt.now
    c.args.name.now
    plan.admission
    c.prepare.new.self c.add.new.self plan.ensures.ok plan.ensures.accepted
    c.admit.ensures.storages c.admit.ensures.repositories c.in_ok-prepare.ensures.list
    c.in_ok-prepare.ensures.ready c.add.ensures)
