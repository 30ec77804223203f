-- The ready push is done.
use Rattle.std.proofs.Common.{◌+◌, ap, sym, ◌∙◌}
use Rattle.node_calls.specs.ReplicaState.{ReplicaState}
use Rattle.refstore.specs.Updates.{after}
use Rattle.node_replica.proofs.ReadyLemmas.{done_ready}
use Rattle.node_replica.proofs.replica.Replica.commit.Goals as goal

pub invariant_of-self-2 : goal.invariant_of-self-2
invariant_of-self-2 g c =
    let inside = c.self.inside in
    done_ready inside.held inside.refs c.keep_push.new.refs inside.objects c.keep_push.new.store
    inside.fence (c.number.result + 1) inside.ready c.take.new.self c.in-Some.ready
    (ap (λ (p : ReplicaState). p.held) c.self.view_is ∙ c.requires.held) (sym c.in-Some.ensures.value)
    c.in-Some.ensures.after
    (c.in_default-keep_push.ensures.ok ∙ ap (after inside.refs) c.as_slice-updates.ensures)
    c.self.invariant.0 c.self.invariant.2
