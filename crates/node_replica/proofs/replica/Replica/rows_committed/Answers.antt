use Rattle.std.proofs.Common.{subst}
use Rattle.std.specs.Option.{IfSome}
use Rattle.node_replica.proofs.ReadyLemmas.{may_be_done}
use Rattle.node_replica.specs.Effects.{MayBeDone}
use Rattle.node_calls.specs.ReplicaState.{ReplicaState}
use Rattle.node_replica.specs.Replica.{push_of}
use Rattle.node_replica.proofs.replica.Replica.rows_committed.Goals as goal

pub returns-clause-ready : goal.returns-clause-ready
returns-clause-ready c =
    let inside = c.self.inside in
    let place : ReplicaState = record {
      held = inside.held;
      refs = inside.refs;
      objects = inside.objects;
      fence = inside.fence;
      last = inside.last;
      ready = push_of inside.ready;
    } in
    subst (λ (p : ReplicaState). IfSome p.ready (MayBeDone p)) c.self.view_is
    (may_be_done place inside.ready c.self.invariant.0)
