use Rattle.std.proofs.Common.{rules, tests, sym, ◌∙◌, filter}
use Rattle.std.proofs.lemmas.Iterator.{YieldsList-from_slice}
use Rattle.std.proofs.lemmas.Iterator.Consumers.{YieldsList-from_filter, count_from_yields_List}
use Rattle.std.proofs.lemmas.List.{length-map}
use Rattle.px_cluster.specs.Book.{Replica}
use Rattle.router.proofs.factor.count_assigned.Goals as goal

pub returns : goal.returns
returns c =
    let assigned = λ (replica : Replica). replica.assigned in
    count_from_yields_List c.filter.result _ c.count.ensures.ran
    (YieldsList-from_filter _ assigned (YieldsList-from_slice c.args.repository.now.replicas (cc)) c.filter.ensures.closure (λ x r q k. search (rules, tests)))
    ∙ sym (length-map (filter assigned c.args.repository.now.replicas) (λ replica. replica.storage))
