use Rattle.std.proofs.Common.{◌∙◌, Some, ap, subst, sym}
use Rattle.issued.specs.Issued.{with_fence}
use Rattle.nodes.specs.State.{state_of}
use Rattle.px_cluster.specs.Cluster.{Cluster}
use Rattle.px_cluster.specs.Events.{Asks, Replied}
use Rattle.px_cluster.specs.Ops.{refusal_of}
use Rattle.px_cluster.specs.Step.{Step}
use Rattle.px_core.specs.Repairs.{IsNextLease}
use Rattle.px_world.specs.World.{Kept, cluster_of, world}
use Rattle.px_world.proofs.Fencing.{fence_drawn, fence_stays}
use Rattle.px_world.proofs.StoragesStay.{nodes_stay}
use Rattle.px_world.proofs.world.World.draw_fence.Goals as goal

pub invariant_of-self-2 : goal.invariant_of-self-2
invariant_of-self-2 c = nodes_stay c.self.inside.core c.step.new.self
    (state_of c.self.inside.nodes) c.args.op.now c.in_ok-reply.ensures.state
    (fence_stays c.self.inside.core c.args.op.now c.args.repo c.args.storage c.requires.draws)
    c.self.invariant

pub returns : goal.returns
returns c =
    let inside = c.self.inside in
    let repo = c.args.repo in
    let storage = c.args.storage in
    let lease = c.args.lease in
    let next = subst (λ (old : Kept). IsNextLease old.core repo.0
    (refusal_of old.core c.args.op.now) (Some lease)) (sym c.self.view_is) c.requires.next in
    subst (λ (old : Kept). Step (cluster_of old) (Asks c.args.op.now) (Replied c.in_ok-reply.reply)
    (world c.step.new.self (state_of inside.nodes) c.fences.new.self)) c.self.view_is
    (fence_drawn inside.core c.step.new.self (state_of inside.nodes) inside.issued
    c.fences.new.self c.args.op.now repo storage lease c.requires.draws next
    (c.fences.ensures
    ∙ ap (λ (cluster : Cluster). with_fence cluster repo.0 storage.0 lease)
    c.reserve.ensures.same) c.in_ok-reply.reply c.in_ok-reply.ensures.reply
    c.in_ok-reply.ensures.state)
