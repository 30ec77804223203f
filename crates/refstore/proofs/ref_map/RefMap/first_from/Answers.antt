use Rattle.std.proofs.Common.{subst}
use Rattle.px_base.specs.RefList.{References, name_cmp}
use Rattle.std.specs.BTreeMap.Range.{IsRangeOf}
use Rattle.std.specs.declared.ops.Bound.TheVariants.{Included, Unbounded}
use Rattle.refstore.specs.RefMap.{AllBelow}
use Rattle.refstore.proofs.RefMaps.{none_is_behind}
use Rattle.refstore.proofs.ref_map.RefMap.first_from.Goals as goal

pub returns-in-None : goal.returns-in-None
returns-in-None c =
    subst (λ (refs : References). AllBelow refs c.args.bytes.now) c.self.view_is
    (none_is_behind c.self.inside.map c.args.bytes.now
    (subst (IsRangeOf name_cmp (Included c.args.bytes.now) Unbounded c.self.inside.map)
    c.in-None.ensures.steps.0 (c.range.ensures.in_range tt)))
