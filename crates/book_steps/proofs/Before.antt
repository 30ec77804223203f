-- What a node has at a path from before the repository had a replica there.
use Rattle.std.proofs.Common.{◌≡◌, ℕ, Bool, true, false, Option, None, Some, refl, sym, ◌∙◌, ap}
use Rattle.node_calls.specs.ReplicaState.{ReadyPush as ReadyAtNode, ReplicaState}
use Rattle.replica_invariant.specs.Contents.{Content, Updates, Vote}
use Rattle.replica_invariant.specs.Creations.{IsFromBefore}
use Rattle.replica_invariant.specs.State.{ReadyPush}
use Rattle.cluster_history.specs.Goes.{IsQuiet}
use Rattle.cluster_history.specs.Seen.{node_if, seen_node, seen_ready}

-- no push is ready there
none_ready : {P : Type 0} (refs : Content) (there : Option ReadyAtNode) → there ≡ None
    → (push : ReadyPush) → seen_ready refs there ≡ Some push → P
none_ready refs there idle push is =
    absurd (let z : None ≡ Some push = sym (ap (seen_ready refs) idle) ∙ is in cc)

quiet_from_before : (state : ReplicaState) (text : ℕ → Vote → Updates) → IsQuiet state
    → IsFromBefore (seen_node state) text
quiet_from_before state text quiet = record {
  committed = quiet.below;
  ready = λ push is. none_ready state.refs state.ready quiet.idle push is;
}

-- it is quiet, where the storage is of the virtual storage
pub from_before : (has : Bool) (state : ReplicaState) (text : ℕ → Vote → Updates)
    → (has ≡ true → IsQuiet state) → IsFromBefore (node_if has state) text
from_before true state text quiet = quiet_from_before state text (quiet refl)
from_before false state text quiet = record {
  committed = λ lease is. absurd (let z : None ≡ Some lease = is in cc);
  ready = λ push is. absurd (let z : None ≡ Some push = is in cc);
}
