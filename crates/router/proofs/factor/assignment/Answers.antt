use Rattle.std.proofs.Common.{◌≡◌, ◌∙◌, IfOk, rules, tests, ap, filter, map, sym, subst}
use Rattle.std.proofs.lemmas.Iterator.{YieldsList-from_map, YieldsList-from_slice, items_from_collect}
use Rattle.std.proofs.lemmas.Iterator.Consumers.{YieldsList-at, YieldsList-from_filter}
use Rattle.std.proofs.lemmas.Result.{IfOk-weaker}
use Rattle.px_cluster.specs.Book.{Replica}
use Rattle.px_cluster.specs.Ids.{storage_id}
use Rattle.genbook.specs.Changes.{AreAscending, numbers_of}
use Rattle.genbook.specs.Health.{core_with_health}
use Rattle.router.specs.Factors.{is_within}
use Rattle.router.proofs.Choosing.{ascending_where, within_chosen}
use Rattle.router.proofs.Places.{numbers_of_places}
use Rattle.router.proofs.factor.assignment.Goals as goal

-- the storages of the replicas within the bounds
collected : (c : goal.After-collect) → IfOk c.collect.result (λ storages. storages.items
    ≡ map (λ (replica : Replica). storage_id replica.storage)
    (filter (is_within c.bounds_of-bounds.result) c.args.repository.now.replicas))
collected c =
    let within = is_within c.bounds_of-bounds.result in
    items_from_collect _ c.collect.ensures.ran
    (YieldsList-from_map _ (λ (replica : Replica). storage_id replica.storage)
    (YieldsList-at c.map.ensures.source (YieldsList-from_filter _ within (YieldsList-from_slice c.args.repository.now.replicas (cc)) c.filter.ensures.closure (λ x r q k. search (rules, tests))))
    c.map.ensures.closure (λ x r q k. search (rules, tests)))

pub returns-clause-value : goal.returns-clause-value
returns-clause-value c =
    let repo = c.args.repository.now in
    let core = core_with_health c.args.health.now in
    IfOk-weaker c.collect.result _ _ (λ storages is.
    ap numbers_of is
    ∙ numbers_of_places (filter (is_within c.bounds_of-bounds.result) repo.replicas)
    ∙ within_chosen core repo c.args.factor c.requires c.bounds_of-bounds.result c.bounds_of-bounds.ensures) (collected c)

pub returns-clause-ascending : goal.returns-clause-ascending
returns-clause-ascending c =
    let repo = c.args.repository.now in
    IfOk-weaker c.collect.result _ _ (λ storages is.
    subst AreAscending
    (sym (ap numbers_of is ∙ numbers_of_places (filter (is_within c.bounds_of-bounds.result) repo.replicas)))
    (ascending_where (is_within c.bounds_of-bounds.result) repo.replicas c.requires)) (collected c)
