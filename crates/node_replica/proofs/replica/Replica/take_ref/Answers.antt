-- One reference more.
use Rattle.std.proofs.Common.{ap, ◌∙◌}
use Rattle.node_calls.specs.ReplicaState.{ReplicaState}
use Rattle.node_replica.proofs.ReadyLemmas.{one_more_ref}
use Rattle.node_replica.proofs.replica.Replica.take_ref.Goals as goal

pub invariant_of-self : goal.invariant_of-self
invariant_of-self c =
    let inside = c.self.inside in
    one_more_ref inside.held inside.refs c.create.new.self inside.objects inside.fence inside.ready
    c.args.name c.args.id (ap (λ (p : ReplicaState). p.ready) c.self.view_is ∙ c.requires.unready)
    c.if-not-self.false c.in-Ok.ensures.ok c.in-Ok.ensures.list
    c.self.invariant.2 c.requires.hash
