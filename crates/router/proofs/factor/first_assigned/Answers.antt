use Rattle.std.proofs.Common.{rules, tests}
use Rattle.std.proofs.lemmas.Iterator.{YieldsList-from_slice}
use Rattle.std.proofs.lemmas.Iterator.Search.{find_from_yields_List}
use Rattle.px_cluster.specs.Book.{Replica}
use Rattle.router.proofs.Places.{first_place}
use Rattle.router.proofs.factor.first_assigned.Goals as goal

pub returns : goal.returns
returns c =
    let assigned = λ (replica : Replica). replica.assigned in
    let found = find_from_yields_List assigned _ _ c.find.result c.find.ensures.ran
    (YieldsList-from_slice c.args.repository.now.replicas (cc)) (λ x b q k. search (rules, tests)) in
    let placed = first_place assigned c.args.repository.now.replicas in
    search (rules, tests, found, placed)
