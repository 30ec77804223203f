use Rattle.std.proofs.Common.{rules, tests, sym, ◌∙◌, filter}
use Rattle.std.proofs.lemmas.Iterator.{YieldsList-from_slice}
use Rattle.std.proofs.lemmas.Iterator.Consumers.{YieldsList-from_filter, count_from_yields_List}
use Rattle.std.proofs.lemmas.List.{length-map}
use Rattle.px_cluster.specs.Core.{is_current}
use Rattle.genbook.specs.Health.{core_with_health}
use Rattle.router.proofs.read_route.count_current.Goals as goal

pub returns : goal.returns
returns c =
    let current = is_current (core_with_health c.args.health.now) c.args.repository.now in
    count_from_yields_List c.filter.result _ c.count.ensures.ran
    (YieldsList-from_filter _ current (YieldsList-from_slice c.args.repository.now.replicas (cc)) c.filter.ensures.closure (λ x r q k. search (rules, tests)))
    ∙ sym (length-map (filter current c.args.repository.now.replicas) (λ replica. replica.storage))
