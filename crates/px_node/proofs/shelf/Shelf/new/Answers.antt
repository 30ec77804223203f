use Rattle.std.proofs.Common.{ap}
use Rattle.px_node.proofs.LawfulLemmas.{lawful_at_first}
use Rattle.px_node.proofs.ShelfLemmas.{rows_at_first}
use Rattle.px_node.specs.Shelf.{Replicas, place_at}
use Rattle.px_node.proofs.shelf.Shelf.new.Goals as goal

pub invariant_of-result : goal.invariant_of-result
invariant_of-result g c = record {
  rows_stand = rows_at_first (g.K.Keeper.rows c.args.keeper) (place_at c.new.result.entries)
      (λ path. ap (λ (e : Replicas). place_at e path) c.new.ensures.empty)
      c.requires;
  lawful = lawful_at_first c.new.result.entries c.new.ensures.empty;
}
