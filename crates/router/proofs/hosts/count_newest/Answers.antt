use Rattle.std.proofs.Common.{rules, tests, sym, ◌∙◌, filter}
use Rattle.std.proofs.lemmas.Iterator.{YieldsList-from_slice}
use Rattle.std.proofs.lemmas.Iterator.Consumers.{YieldsList-from_filter, count_from_yields_List}
use Rattle.std.proofs.lemmas.List.{length-map}
use Rattle.px_cluster.specs.Book.{is_newest}
use Rattle.router.proofs.hosts.count_newest.Goals as goal

pub returns : goal.returns
returns c =
    let newest = filter (is_newest c.args.repository.now) c.args.repository.now.replicas in
    count_from_yields_List c.filter.result _ c.count.ensures.ran
    (YieldsList-from_filter _ (is_newest c.args.repository.now) (YieldsList-from_slice c.args.repository.now.replicas (cc)) c.filter.ensures.closure (λ x r q k. search (rules, tests)))
    ∙ sym (length-map newest (λ replica. replica.storage))
