use Rattle.refstore.proofs.Overlaid.{told_changed, told_unchanged}
use Rattle.refstore.proofs.planned.Planned.contains.Goals as goal

pub returns-in-Some-clause-value : goal.returns-in-Some-clause-value
returns-in-Some-clause-value c =
    told_changed c.self.inside.refs.now c.self.inside.changes c.args.self.now c.self.invariant.0.ordered
    c.self.view_is c.args.bytes.now c.object_of.result c.object_of.ensures.value c.in-Some.id c.in-Some.is
    c.is_zero.result c.is_zero.ensures

pub returns-in-None-clause-value : goal.returns-in-None-clause-value
returns-in-None-clause-value c =
    told_unchanged c.self.inside.refs.now c.self.inside.changes c.args.self.now c.self.invariant.0.ordered
    c.self.view_is c.args.bytes.now c.object_of.result c.object_of.ensures.value c.in-None.is
    c.contains.result c.contains.ensures.value
