use Rattle.std.proofs.Common.{◌<◌, List, arith, length, subst, sym}
use Rattle.std.specs.List.{AllByRecursion}
use Rattle.std.proofs.lemmas.List.Elements.{All-from_recursion, All-get_or}
use Rattle.px_cluster.specs.Book.{Replica}
use Rattle.px_core.proofs.BookOps.{replicas_known}
use Rattle.px_core.proofs.state.Core.books.Goals as goal

pub row_of-requires : goal.row_of-requires
row_of-requires c =
    let storages = c.args.self.now.storages in
    let replicas = c.replicas-replica-items.result.now in
    let IsKnown = λ (replica : Replica). replica.storage < length storages in
    let known = subst (λ (rs : List Replica). AllByRecursion IsKnown rs)
    (sym c.replicas-replica-items.ensures)
    (replicas_known storages c.args.repository.now c.requires) in
    subst IsKnown (sym c.replica-item.is) (All-get_or IsKnown replicas
    c.loop-replica.replica-index c.replica-item.result
    (omega (arith, c.loop-replica.auto.replica-index-end, c.loop-replica-test.true))
    (All-from_recursion IsKnown replicas known))
