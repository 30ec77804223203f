use Rattle.std.proofs.Common.{ap, sym, ◌∙◌, not}
use Rattle.refstore.proofs.Passing.{told_first, told_none_passes}
use Rattle.refstore.specs.RefMap.{is_set}
use Rattle.refstore.proofs.ref_map.RefMap.first_set.Goals as goal

pub returns-then-not-is_zero : goal.returns-then-not-is_zero
returns-then-not-is_zero c =
    told_first is_set c.args.bytes.now c.self.inside.map.entries c.args.self.now
    c.into_iter-name-iterator.result c.loop-name.name-iterator c.self.invariant.ordered c.self.view_is
    (c.into_iter-name-iterator.ensures.into_iter_gives ∙ c.range-name-items.ensures.between tt)
    c.loop-name.invariant (c.in-Some.name.now, c.in-Some.id.now) c.next.new.self c.in-Some.ensures.steps
    (ap not (sym c.is_zero.ensures ∙ c.if-not-is_zero.true))

pub returns : goal.returns
returns c =
    told_none_passes is_set c.args.bytes.now c.self.inside.map.entries c.args.self.now
    c.into_iter-name-iterator.result c.loop-name.name-iterator c.self.invariant.ordered c.self.view_is
    (c.into_iter-name-iterator.ensures.into_iter_gives ∙ c.range-name-items.ensures.between tt)
    c.loop-name.invariant c.in-None.ensures.steps.0
