use Rattle.std.proofs.Common.{◌≡◌, None, subst, sym}
use Rattle.px_ops.specs.declared.op.Op.TheVariants as op
use Rattle.px_ops.specs.declared.reply.Reply.TheVariants as reply
use Rattle.px_cluster.specs.Core.{Core}
use Rattle.px_core.specs.Parts.{core_with}
use Rattle.px_core.specs.Work.{Comes, IsDropped, dequeue_refusal}
use Rattle.px_core.proofs.BookOps.{done_sound}
use Rattle.px_core.proofs.Works.{dropped_done}
use Rattle.px_core.proofs.state.Core.dequeue.Goals as goal

pub invariant_of-self : goal.invariant_of-self
invariant_of-self c =
    let inside = c.self.inside in
    let core = core_with inside.book inside.health.up inside.votes inside.last inside.turns
    inside.reads.items inside.queue in
    let target = c.args.target.0 in
    let job = c.in-Dropped.job in
    let none : dequeue_refusal core target ≡ None = subst (λ (known : Core).
    dequeue_refusal known target ≡ None) (sym c.self.view_is) c.in_ok-coming.ensures.accepted in
    let comes : IsDropped c.args.self.now target job =
    subst (Comes c.args.self.now target) c.in-Dropped.is c.in_ok-coming.ensures.ok in
    let is = subst (λ (known : Core). IsDropped known target job) (sym c.self.view_is) comes in
    done_sound core _ (op.Dequeue c.args.target c.args.now) (reply.Dropped job) c.self.invariant
    (dropped_done inside.book inside.health.up inside.votes inside.last inside.turns
    inside.reads.items inside.queue
    c.drop.new.self c.args.target c.args.now job none is c.drop.ensures)
