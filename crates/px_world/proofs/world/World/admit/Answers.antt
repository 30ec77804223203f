use Rattle.std.proofs.Common.{◌∙◌, ap, subst, sym}
use Rattle.nodes.specs.State.{NodesState, state_of}
use Rattle.px_cluster.specs.Events.{Asks, Replied}
use Rattle.px_cluster.specs.Step.{Step}
use Rattle.px_world.specs.World.{Kept, cluster_of, world}
use Rattle.px_world.proofs.Asking.{admission_happens}
use Rattle.px_world.proofs.StoragesStay.{no_more, nodes_stay}
use Rattle.px_world.proofs.world.World.admit.Goals as goal
use Rattle.px_world.proofs.world.World.admit.Goals.{in-Storage, in_default}

pub invariant_of-self-in_default : goal.invariant_of-self-in_default
invariant_of-self-in_default c = nodes_stay c.self.inside.core c.step.new.self
    (state_of c.prepare.new.self) c.args.op.now c.in_ok-reply.ensures.state
    (no_more c.self.inside.core c.args.op.now c.in_ok-reply.reply c.requires
    c.in_default.not-Storage c.in_ok-reply.ensures.reply)
    (ap (λ (nodes : NodesState). nodes.count) c.in_ok-prepare.ensures.ok ∙ c.self.invariant)

pub returns : goal.returns
returns c =
    let inside = c.self.inside in
    let prepared = ap (λ (nodes : NodesState). nodes.node) c.in_ok-prepare.ensures.ok in
    subst (λ (old : Kept). Step (cluster_of old) (Asks c.args.op.now)
    (Replied c.in_ok-reply.reply) (cluster_of c.match-reply.self)) c.self.view_is
    (elim c.match-reply.branch [
      | in-Storage w ↦ subst (λ (new : Kept). Step (world inside.core (state_of inside.nodes) inside.issued) (Asks c.args.op.now)
          (Replied c.in_ok-reply.reply) (cluster_of new)) (sym w.self-is)
          (admission_happens inside.core c.step.new.self (state_of inside.nodes)
          (state_of w.add.new.self) inside.issued c.args.op.now c.in_ok-reply.reply
          c.in_ok-reply.ensures.reply c.in_ok-reply.ensures.state c.requires
          (ap (λ (nodes : NodesState). nodes.node) w.add.ensures ∙ prepared))
      | in_default w ↦ subst (λ (new : Kept). Step (world inside.core (state_of inside.nodes) inside.issued) (Asks c.args.op.now)
          (Replied c.in_ok-reply.reply) (cluster_of new)) (sym w.self-is)
          (admission_happens inside.core c.step.new.self (state_of inside.nodes)
          (state_of c.prepare.new.self) inside.issued c.args.op.now c.in_ok-reply.reply
          c.in_ok-reply.ensures.reply c.in_ok-reply.ensures.state c.requires prepared)
    ])
