use Rattle.std.proofs.Common.{ap, sym, ◌∙◌, not}
use Rattle.refstore.proofs.Passing.{told_first, told_none_passes}
use Rattle.refstore.specs.RefMap.{is_outside}
use Rattle.refstore.proofs.ref_map.RefMap.first_outside.Goals as goal

pub returns-then-not-contains : goal.returns-then-not-contains
returns-then-not-contains c =
    told_first (is_outside c.args.others.now) c.args.bytes.now c.self.inside.map.entries c.args.self.now
    c.into_iter-name-iterator.result c.loop-name.name-iterator c.self.invariant.ordered c.self.view_is
    (c.into_iter-name-iterator.ensures.into_iter_gives ∙ c.range-name-items.ensures.between tt)
    c.loop-name.invariant (c.in-Some.name.now, c.in-Some.field-0-1.now) c.next.new.self c.in-Some.ensures.steps
    (ap not (sym c.contains.ensures.value ∙ c.if-not-contains.true))

pub returns : goal.returns
returns c =
    told_none_passes (is_outside c.args.others.now) c.args.bytes.now c.self.inside.map.entries c.args.self.now
    c.into_iter-name-iterator.result c.loop-name.name-iterator c.self.invariant.ordered c.self.view_is
    (c.into_iter-name-iterator.ensures.into_iter_gives ∙ c.range-name-items.ensures.between tt)
    c.loop-name.invariant c.in-None.ensures.steps.0
