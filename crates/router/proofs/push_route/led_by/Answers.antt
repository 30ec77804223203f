use Rattle.std.proofs.Common.{◌≡◌, ◌≤◌, ◌∷◌, ◌∙◌, List, ℕ, ap, arith, filter, length, take}
use Rattle.std.proofs.lemmas.List.{take_all}
use Rattle.px_cluster.specs.Book.{Replica}
use Rattle.px_cluster.specs.Members.{is_host}
use Rattle.genbook.specs.Health.{core_with_health}
use Rattle.router.proofs.Places.{is_secondary, others_of, places}
use Rattle.router.proofs.push_route.led_by.Goals as goal

pub returns : goal.returns
returns c =
    let host = is_host (core_with_health c.args.health.now) c.args.repository.now in
    let primary = c.args.primary.0 in
    let replicas = c.args.repository.now.replicas in
    let passed : length replicas ≤ c.loop-replica.replica-index = omega (arith, ap length c.replicas-replica-items.ensures) in
    let all : take c.loop-replica.replica-index replicas ≡ replicas = take_all c.loop-replica.replica-index replicas passed in
    c.loop-replica.invariant
    ∙ ap (λ (each : List Replica). primary ∷ places (filter (is_secondary host primary) each)) all
    ∙ ap (λ (others : List ℕ). primary ∷ others) (others_of host primary replicas)
