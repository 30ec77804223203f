use Rattle.std.proofs.Common.{rules, tests}
use Rattle.std.proofs.lemmas.Iterator.{YieldsList-from_slice}
use Rattle.std.proofs.lemmas.Iterator.Search.{find_from_yields_List}
use Rattle.px_cluster.specs.Members.{is_host}
use Rattle.genbook.specs.Health.{core_with_health}
use Rattle.router.proofs.Places.{first_place}
use Rattle.router.proofs.hosts.first_host.Goals as goal

pub returns : goal.returns
returns c =
    let host = is_host (core_with_health c.args.health.now) c.args.repository.now in
    let found = find_from_yields_List host _ _ c.find.result c.find.ensures.ran
    (YieldsList-from_slice c.args.repository.now.replicas (cc)) (λ x b q k. search (rules, tests)) in
    let placed = first_place host c.args.repository.now.replicas in
    search (rules, tests, found, placed)
