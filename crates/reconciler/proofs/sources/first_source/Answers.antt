use Rattle.std.proofs.Common.{rules, tests}
use Rattle.std.proofs.lemmas.Iterator.{YieldsList-from_slice}
use Rattle.std.proofs.lemmas.Iterator.Search.{find_from_yields_List}
use Rattle.genbook.specs.Health.{core_with_health}
use Rattle.reconciler.proofs.StoragesOf.{first_passing}
use Rattle.reconciler.specs.Sources.{is_source}
use Rattle.reconciler.proofs.sources.first_source.Goals as goal

pub returns : goal.returns
returns c =
    let source = is_source (core_with_health c.args.health.now) c.args.repository.now
    c.args.target.0 in
    let found = find_from_yields_List source _ _ c.find.result c.find.ensures.ran
    (YieldsList-from_slice c.args.repository.now.replicas (cc)) (λ x b q k. search (rules, tests))
    in
    let placed = first_passing source c.args.repository.now.replicas in
    search (rules, tests, found, placed)
