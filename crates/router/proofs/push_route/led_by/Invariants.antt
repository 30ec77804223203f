use Rattle.std.proofs.Common.{◌≡◌, ◌∷◌, filter, take}
use Rattle.px_cluster.specs.Members.{is_host}
use Rattle.genbook.specs.Changes.{numbers_of}
use Rattle.genbook.specs.Health.{core_with_health}
use Rattle.router.proofs.Places.{is_secondary, places}
use Rattle.router.proofs.push_route.led_by.Given as goal

abbrev pub invariant-loop-replica : goal.invariant-loop-replica
invariant-loop-replica l = numbers_of l.members.items
    ≡ l.primary.0 ∷ places (filter (is_secondary (is_host (core_with_health l.health) l.repository) l.primary.0) (take l.replica-index l.repository.replicas))
