-- An operation as an event of the cluster: it is refused or done.
use Rattle.std.proofs.Common.{◌≡◌, Option, None, Some, refl, sym, subst}
use Rattle.px_ops.specs.declared.op.Op.{Op}
use Rattle.px_ops.specs.declared.refusal.Refusal.{Refusal}
use Rattle.px_cluster.specs.Acknowledged.{done_in, event_refusal}
use Rattle.px_cluster.specs.Cluster.{Cluster}
use Rattle.px_cluster.specs.Events.{Answer}
use Rattle.px_cluster.specs.Ops.{unless_refused}
use Rattle.px_cluster.specs.Step.{IsAsked}
use Rattle.cluster_history.specs.Goes.{GoesOn, IsSound, OpGoesOn}
use Rattle.cluster_history.specs.History.{Whole}
use Rattle.cluster_history.specs.Remembered.{after_asking, by_op}
use Rattle.cluster_history.proofs.Effects.{nothing_goes}

-- an operation that was asked for, whatever it is answered
pub asked_goes : (asked : Op) → OpGoesOn asked → (whole : Whole) (answer : Answer) (new : Cluster)
    → IsSound whole → IsAsked whole.cluster asked answer new
    → GoesOn whole (record { cluster = new; history = after_asking whole asked })
asked_goes asked goes whole answer new sound is =
    subst (λ c. GoesOn whole (record { cluster = c; history = after_asking whole asked }))
    (sym is.leads) (by (event_refusal whole.cluster asked) refl)
  where
    by : (why : Option Refusal) → event_refusal whole.cluster asked ≡ why → GoesOn whole (record {
      cluster = unless_refused why whole.cluster (done_in whole.cluster asked);
      history = unless_refused why whole.history (by_op whole.history whole.cluster asked);
    })
    by None none = goes whole sound none
    by (Some why) refused = nothing_goes whole
