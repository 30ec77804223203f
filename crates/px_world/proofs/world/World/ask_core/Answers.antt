use Rattle.std.proofs.Common.{subst}
use Rattle.nodes.specs.State.{state_of}
use Rattle.px_cluster.specs.Events.{Asks, Replied}
use Rattle.px_cluster.specs.Step.{Step}
use Rattle.px_world.specs.World.{Kept, cluster_of, world}
use Rattle.px_world.proofs.Asking.{plain_happens}
use Rattle.px_world.proofs.StoragesStay.{nodes_stay, plain_stays}
use Rattle.px_world.proofs.world.World.ask_core.Goals as goal

pub invariant_of-self-2 : goal.invariant_of-self-2
invariant_of-self-2 c = nodes_stay c.self.inside.core c.step.new.self
    (state_of c.self.inside.nodes) c.args.op.now c.in_ok-reply.ensures.state
    (plain_stays c.self.inside.core c.args.op.now c.requires)
    c.self.invariant

pub returns : goal.returns
returns c =
    let inside = c.self.inside in
    subst (λ (old : Kept). Step (cluster_of old) (Asks c.args.op.now)
    (Replied c.in_ok-reply.reply) (world c.step.new.self (state_of inside.nodes) inside.issued))
    c.self.view_is
    (plain_happens inside.core c.step.new.self (state_of inside.nodes) inside.issued c.args.op.now
    c.in_ok-reply.reply c.in_ok-reply.ensures.reply c.in_ok-reply.ensures.state c.requires)
