use Rattle.std.proofs.Common.{rules, tests, ◌∙◌}
use Rattle.std.specs.Prelude.{◌==◌, ◌&&◌}
use Rattle.std.proofs.lemmas.Iterator.{YieldsList-from_slice}
use Rattle.std.proofs.lemmas.Iterator.Search.{any_from_yields_List}
use Rattle.px_cluster.specs.Book.{Replica}
use Rattle.genbook.specs.Health.{core_with_health}
use Rattle.reconciler.proofs.StoragesOf.{among_passing}
use Rattle.reconciler.specs.Sources.{is_source}
use Rattle.reconciler.proofs.sources.has_source.Goals as goal

pub returns : goal.returns
returns c =
    let source = is_source (core_with_health c.args.health.now) c.args.repository.now
    c.args.target.0 in
    any_from_yields_List (λ (replica : Replica). (replica.storage == c.args.source.0) && source
    replica) _ _ _ c.any.ensures.ran
    (YieldsList-from_slice c.args.repository.now.replicas (cc)) (λ x b q k. search (rules, tests))
    ∙ among_passing source c.args.source.0 c.args.repository.now.replicas
