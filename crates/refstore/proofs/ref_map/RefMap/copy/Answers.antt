use Rattle.std.proofs.Common.{◌++◌, ap, ◌∙◌, sym, subst}
use Rattle.std.specs.List.Sorted.{IsStrictlySortedBy}
use Rattle.std.specs.Map.{keys_of}
use Rattle.px_base.specs.RefList.{References, name_cmp}
use Rattle.refstore.proofs.RefMaps.{copies_more}
use Rattle.refstore.proofs.ref_map.RefMap.copy.Goals as goal

pub loop-name-preserved : goal.loop-name-preserved
loop-name-preserved c =
    copies_more c.loop-name.map.entries c.next.new.self c.into_iter-name-iterator.result
    c.insert.new.self.entries c.in_ok-copy.field-0 c.in-Some.name.now c.in-Some.id.now
    (ap (λ (r : References). c.loop-name.map.entries ++ r) (sym c.in-Some.ensures.steps)
    ∙ c.loop-name.invariant)
    (subst (λ (r : References). IsStrictlySortedBy name_cmp (keys_of r))
    (sym c.into_iter-name-iterator.ensures.into_iter_gives.0) c.self.invariant.ordered)
    c.in_ok-copy.ensures c.in_ok-insert.ensures.entries
