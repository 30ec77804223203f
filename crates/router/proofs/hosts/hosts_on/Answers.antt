use Rattle.std.proofs.Common.{rules, tests, ◌∙◌}
use Rattle.std.specs.Prelude.{◌==◌, ◌&&◌}
use Rattle.std.proofs.lemmas.Iterator.{YieldsList-from_slice}
use Rattle.std.proofs.lemmas.Iterator.Search.{any_from_yields_List}
use Rattle.px_cluster.specs.Book.{Replica}
use Rattle.px_cluster.specs.Members.{is_host}
use Rattle.genbook.specs.Health.{core_with_health}
use Rattle.router.proofs.Places.{among_places}
use Rattle.router.proofs.hosts.hosts_on.Goals as goal

pub returns : goal.returns
returns c =
    let host = is_host (core_with_health c.args.health.now) c.args.repository.now in
    any_from_yields_List (λ (replica : Replica). (replica.storage == c.args.storage.0) && host replica) _ _ _ c.any.ensures.ran
    (YieldsList-from_slice c.args.repository.now.replicas (cc)) (λ x b q k. search (rules, tests))
    ∙ among_places host c.args.storage.0 c.args.repository.now.replicas
