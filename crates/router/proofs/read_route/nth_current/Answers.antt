use Rattle.std.proofs.Common.{rules, tests, filter}
use Rattle.std.proofs.lemmas.Iterator.{YieldsList-from_slice}
use Rattle.std.proofs.lemmas.Iterator.Consumers.{YieldsList-from_filter, nth_from_yields_List}
use Rattle.px_cluster.specs.Core.{is_current}
use Rattle.genbook.specs.Health.{core_with_health}
use Rattle.router.proofs.Places.{place_got}
use Rattle.router.proofs.read_route.nth_current.Goals as goal

pub returns : goal.returns
returns c =
    let current = is_current (core_with_health c.args.health.now) c.args.repository.now in
    let found = nth_from_yields_List c.nth.result _ c.args.place c.nth.ensures.ran
    (YieldsList-from_filter _ current (YieldsList-from_slice c.args.repository.now.replicas (cc)) c.filter.ensures.closure (λ x r q k. search (rules, tests))) in
    let placed = place_got (filter current c.args.repository.now.replicas) c.args.place in
    search (rules, tests, found, placed)
