-- When a push is ready to be done at a replica, and why it is not.
use Rattle.std.specs.Prelude.{◌≡◌, ◌≤◌, ℕ, List, None, true}
use Rattle.px_base.specs.declared.hash.Hash.{Hash}
use Rattle.px_base.specs.declared.push.Push.{Push}
use Rattle.objstore.specs.Reach.{IsClosed, Objects}
use Rattle.node_calls.specs.Calls.{Lacks, PrepareRefuses, new_tips, prepare_refusal, with_coming}
use Rattle.node_calls.specs.ReplicaState.{ReplicaState}
use Rattle.node_calls.specs.declared.node.NodeError.{NodeError}
use Rattle.node_calls.specs.declared.node.NodeError.TheVariants.{Fault, Memory, Refused}
use Rattle.node_replica.specs.Replica.{IsReady}
use Rattle.node_replica.specs.declared.replica.Ready.{Ready}

-- an object is missed, or memory wants
abbrev pub IsMissing : Objects → List Hash → NodeError → Type 0
IsMissing objects tips (Refused r) = Lacks objects tips r
IsMissing objects tips Memory = Unit {0}
IsMissing objects tips Fault = ⊥

-- the push that is ready
abbrev pub push_in : Ready → Push
push_in ready = record { updates = ready.updates; objects = ready.objects }

-- the push may be ready at the place, which is held, once the fence there is its lease
pub record IsReadyAt (ready : Ready) (place : ReplicaState) : Type 0 where
  pub held : place.held ≡ true
  pub above : place.fence ≤ ready.lease
  pub stands : IsReady place.refs place.objects ready.lease ready

-- the push is accepted, and this is it, ready
pub record IsPrepared (lease : ℕ) (push : Push) (place : ReplicaState) (ready : Ready) : Type 0 where
  pub accepted : prepare_refusal lease push place ≡ None
  pub closed : IsClosed (with_coming place push.objects) (new_tips push.updates)
  pub lease_is : ready.lease ≡ lease
  pub push_is : push_in ready ≡ push
  pub at : IsReadyAt ready place

-- it is refused, or memory wants
abbrev pub IsNotPrepared : ℕ → Push → ReplicaState → NodeError → Type 0
IsNotPrepared lease push place (Refused r) = PrepareRefuses lease push place r
IsNotPrepared lease push place Memory = Unit {0}
IsNotPrepared lease push place Fault = ⊥
