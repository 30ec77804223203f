-- The references of a replica are read: nothing changes.
use Rattle.std.proofs.Common.{◌≡◌, Bool, true, false, Option, None, Some, if◌then◌else◌, refl, sym, subst}
use Rattle.px_cluster.specs.Cluster.{Cluster}
use Rattle.px_cluster.specs.Deliveries.{ReadsRefs}
use Rattle.px_cluster.specs.Effects.{Location, location_of}
use Rattle.px_cluster.specs.Events.{Answer}
use Rattle.cluster_history.specs.Goes.{GoesOn}
use Rattle.cluster_history.specs.History.{History, Whole}
use Rattle.cluster_history.specs.Remembered.{is_refused}
use Rattle.cluster_history.proofs.Effects.{nothing_goes}
use Rattle.delivery_steps.specs.Deliveries.{RefsGoOn}

-- a reading leaves the cluster
stays : (old : Cluster) (location : Option Location) (answer : Answer) (new : Cluster)
    → ReadsRefs old location answer new → new ≡ old
stays old None answer new reads = reads.1
stays old (Some location) answer new reads = reads.1

-- and what is remembered, whatever is answered
either : (history : History) (refused : Bool) → history ≡ (if refused then history else history)
either history true = refl
either history false = refl

pub refs_go : RefsGoOn
refs_go storage repo whole answer new sound one step =
    subst (λ (w : Whole). GoesOn whole w) (λ i. record {
      cluster =
          sym (stays whole.cluster (location_of whole.cluster repo storage) answer new step) i;
      history = either whole.history (is_refused answer) i;
    }) (nothing_goes whole)
