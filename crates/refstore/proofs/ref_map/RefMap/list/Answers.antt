use Rattle.std.proofs.Common.{◌++◌, ap, ◌∙◌, sym, subst}
use Rattle.px_base.specs.RefList.{References, IsRefList}
use Rattle.refstore.specs.RefMap.{IsRefMap}
use Rattle.refstore.proofs.RefLists.{IsRefList-more, named_midst}
use Rattle.refstore.proofs.ref_map.RefMap.list.Goals as goal

pub of-name-requires : goal.of-name-requires
of-name-requires c =
    named_midst c.loop-name.list c.into_iter-name-iterator.result c.next.new.self
    c.in-Some.name.now c.in_ok-copy.field-0 c.in-Some.id.now
    (ap (λ (r : References). c.loop-name.list ++ r) (sym c.in-Some.ensures.steps)
    ∙ c.loop-name.invariant)
    c.in_ok-copy.ensures
    (subst IsRefMap (sym c.into_iter-name-iterator.ensures.into_iter_gives.0) c.self.invariant)

pub push-requires : goal.push-requires
push-requires c =
    IsRefList-more c.loop-name.list c.into_iter-name-iterator.result c.next.new.self
    c.in-Some.name.now c.of-name.result c.in-Some.id.now
    (ap (λ (r : References). c.loop-name.list ++ r) (sym c.in-Some.ensures.steps)
    ∙ c.loop-name.invariant)
    (c.of-name.ensures ∙ c.in_ok-copy.ensures)
    (subst IsRefList (sym (c.into_iter-name-iterator.ensures.into_iter_gives.0 ∙ c.self.view_is))
    c.requires)
