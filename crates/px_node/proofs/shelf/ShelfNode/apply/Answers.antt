use Rattle.std.proofs.Common.{◌≡◌, List, None, subst, sym}
use Rattle.px_base.specs.Object.{GitObject}
use Rattle.objstore.specs.Bundle.{bundle_fault}
use Rattle.px_base.specs.RefList.{IsRefList}
use Rattle.px_node.proofs.ShelfLemmas.{admits_first, apply_ends, rows_after_apply}
use Rattle.px_node.specs.Shelf.{place_at}
use Rattle.node_calls.specs.Refusals.{of_bundle}
use Rattle.px_node.proofs.shelf.ShelfNode.apply.Goals as goal

pub invariant_of-self-2 : goal.invariant_of-self-2
invariant_of-self-2 g c =
    let self = c.args.self.now in
    let place = c.find-replica.result.now in
    let told = c.in_ok-refs.ensures in
    let objects = c.in_ok-refs.objects in
    let comes = subst (λ (o : List GitObject). bundle_fault place.objects 0 o ≡ None)
    (sym told.objects) told.comes in
    record {
      rows_stand = rows_after_apply (g.K.Keeper.rows self.keeper)
          (g.K.Keeper.rows c.apply.new.keeper) (place_at self.replicas.entries)
          (place_at c.make_room.new.replicas.entries) (place_at c.apply.new.replicas.entries)
          c.args.repo.now place c.in_ok-batch.batch self.rows_stand c.make_room.ensures.same
          c.find-replica.ensures c.in_ok-batch.ensures.path c.args.lease
          (admits_first c.args.lease place
          (of_bundle (bundle_fault place.objects 0 c.args.snapshot.now.objects)) told.accepted) c.apply.result c.in_ok-refs.refs
          objects comes (subst IsRefList (sym told.ok) told.list)
          c.in_ok-batch.ensures.batch c.apply.ensures.ok
          c.apply.ensures.kept c.apply.ensures.err c.apply.ensures.err_rows;
      lawful = c.apply.ensures.lawful (c.make_room.ensures.lawful self.lawful);
    }

pub returns-clause-ends : goal.returns-clause-ends
returns-clause-ends g c =
    let self = c.args.self.now in
    let told = c.in_ok-refs.ensures in
    apply_ends c.args.lease c.args.snapshot.now c.args.repo.now c.apply.result
    (place_at self.replicas.entries) (place_at c.make_room.new.replicas.entries)
    (place_at c.apply.new.replicas.entries) c.find-replica.result.now c.in_ok-refs.refs
    c.in_ok-refs.objects (λ q. c.make_room.ensures.same q) c.find-replica.ensures
    told.accepted told.closed told.ok told.objects c.apply.ensures.ok
    c.apply.ensures.err c.apply.ensures.known
