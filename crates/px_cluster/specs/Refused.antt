-- A refusal changes nothing.
use Rattle.std.specs.Prelude.{◌≡◌}
use Rattle.px_ops.specs.declared.refusal.Refusal.{Refusal}
use Rattle.px_cluster.specs.Cluster.{Cluster}
use Rattle.px_cluster.specs.Events.{Event, refused}
use Rattle.px_cluster.specs.Events as event
use Rattle.px_cluster.specs.Step.{Step}

-- any event but a fence, which is raised also where it is refused
abbrev pub IsNoFence : Event → Type 0
IsNoFence (event.Fence storage repo lease) = ⊥
IsNoFence other = Unit {0}

-- what is refused leaves the cluster as it was: the core, the nodes and the ledger
abbrev pub RefusalChangesNothing : Type 0
RefusalChangesNothing = (old new : Cluster) (happened : Event) (why : Refusal)
    → IsNoFence happened → Step old happened (refused why) new → new ≡ old
