use Rattle.std.proofs.Common.{rules, tests, ap, filter, ◌∙◌}
use Rattle.std.specs.Prelude.{◌&&◌, not}
use Rattle.std.proofs.lemmas.Iterator.{YieldsList-from_map, YieldsList-from_slice, items_from_collect}
use Rattle.std.proofs.lemmas.Iterator.Consumers.{YieldsList-at, YieldsList-from_filter}
use Rattle.std.proofs.lemmas.Result.{IfOk-weaker}
use Rattle.px_cluster.specs.Book.{Replica}
use Rattle.px_cluster.specs.Ids.{storage_id}
use Rattle.px_cluster.specs.Members.{is_host}
use Rattle.genbook.specs.Changes.{numbers_of}
use Rattle.genbook.specs.Health.{core_with_health}
use Rattle.router.proofs.Places.{numbers_of_places}
use Rattle.router.proofs.push_route.targets.Goals as goal

pub returns : goal.returns
returns c =
    let host = is_host (core_with_health c.args.health.now) c.args.repository.now in
    let target = λ (replica : Replica). replica.assigned && not (host replica) in
    let items = items_from_collect _ c.collect.ensures.ran
    (YieldsList-from_map _ (λ (replica : Replica). storage_id replica.storage)
    (YieldsList-at c.map.ensures.source (YieldsList-from_filter _ target (YieldsList-from_slice c.args.repository.now.replicas (cc)) c.filter.ensures.closure (λ x r q k. search (rules, tests))))
    c.map.ensures.closure (λ x r q k. search (rules, tests))) in
    IfOk-weaker c.collect.result _ _ (λ storages is. ap numbers_of is ∙ numbers_of_places (filter target c.args.repository.now.replicas)) items
