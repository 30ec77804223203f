-- One object more is moved, until none is left.
use Rattle.std.proofs.Common.{◌≡◌, [], sym, ◌∙◌, subst}
use Rattle.objstore.proofs.Moved.{IsMoving, IsMoving-first, moved_all, moved_one, moved_store, moving_room}
use Rattle.objstore.specs.Bundle.{with_objects}
use Rattle.objstore.specs.Entries.{AreSmall, Entries}
use Rattle.objstore.proofs.object_map.ObjectMap.fill.Goals as goal

pub loop-id-init : goal.loop-id-init
loop-id-init c =
    let before = c.args.self.now in
    let all : c.into_iter-id-iterator.result ≡ with_objects [] c.args.objects.now =
    c.into_iter-id-iterator.ensures.into_iter_gives.0 ∙ c.coming.view_is
    ∙ c.take-coming.ensures.taken in
    subst (λ (s : Entries). IsMoving s before s before) (sym all)
    (IsMoving-first before c.args.objects.now c.requires)

pub set-requires : goal.set-requires
set-requires c =
    let all = c.into_iter-id-iterator.result in
    moving_room all c.args.self.now c.next.new.self c.loop-id.self c.in-Some.id c.in-Some.object
    (subst (λ (s : Entries). IsMoving all c.args.self.now s c.loop-id.self) c.in-Some.ensures.steps
    c.loop-id.invariant)

pub loop-id-preserved : goal.loop-id-preserved
loop-id-preserved c =
    let all = c.into_iter-id-iterator.result in
    let before = c.args.self.now in
    subst (λ (s : Entries). IsMoving all before c.next.new.self s) (sym c.set.ensures)
    (moved_one all before c.next.new.self c.loop-id.self c.in-Some.id c.in-Some.object
    (subst (λ (s : Entries). IsMoving all before s c.loop-id.self) c.in-Some.ensures.steps
    c.loop-id.invariant))

pub returns-clause-moved : goal.returns-clause-moved
returns-clause-moved c = λ store is_store room.
    moved_all store c.args.self.now c.loop-id.self c.into_iter-id-iterator.result
    c.loop-id.id-iterator c.args.objects.now
    (c.into_iter-id-iterator.ensures.into_iter_gives.0 ∙ c.coming.view_is
    ∙ c.take-coming.ensures.taken)
    c.in-None.ensures.steps.0 c.len-ids.ensures.ordered c.loop-id.invariant is_store room

pub returns-clause-store : goal.returns-clause-store
returns-clause-store c = λ store is_store small none room.
    moved_store store c.loop-id.self c.args.objects.now
    (moved_all store c.args.self.now c.loop-id.self c.into_iter-id-iterator.result
    c.loop-id.id-iterator c.args.objects.now
    (c.into_iter-id-iterator.ensures.into_iter_gives.0 ∙ c.coming.view_is
    ∙ c.take-coming.ensures.taken)
    c.in-None.ensures.steps.0 c.len-ids.ensures.ordered c.loop-id.invariant is_store room)
    is_store small none (subst AreSmall c.take-coming.ensures.taken c.take-coming.ensures.small)
