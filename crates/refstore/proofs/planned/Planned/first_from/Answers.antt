use Rattle.std.proofs.Common.{◌∙◌, sym}
use Rattle.refstore.proofs.Overlaid.{first_kept_is, first_set_is, only_kept_is, only_set_is}
use Rattle.refstore.proofs.planned.Planned.first_from.Goals as goal

pub returns-then-lt : goal.returns-then-lt
returns-then-lt c =
    first_set_is c.self.inside.refs.now c.self.inside.changes c.args.self.now c.args.bytes.now
    c.self.invariant.0 c.self.invariant.1 c.self.view_is c.first_outside-kept.result
    c.first_set-set.result c.first_outside-kept.ensures c.first_set-set.ensures c.in-Some-Some.kept
    c.in-Some-Some.set c.in-Some-Some.is-0 c.in-Some-Some.is-1 (sym c.lt.ensures ∙ c.if-lt.true)

pub returns-else-lt : goal.returns-else-lt
returns-else-lt c =
    first_kept_is c.self.inside.refs.now c.self.inside.changes c.args.self.now c.args.bytes.now
    c.self.invariant.0 c.self.invariant.1 c.self.view_is c.first_outside-kept.result
    c.first_set-set.result c.first_outside-kept.ensures c.first_set-set.ensures c.in-Some-Some.kept
    c.in-Some-Some.set c.in-Some-Some.is-0 c.in-Some-Some.is-1 (sym c.lt.ensures ∙ c.if-lt.false)

pub returns-in-Some-None : goal.returns-in-Some-None
returns-in-Some-None c =
    only_kept_is c.self.inside.refs.now c.self.inside.changes c.args.self.now c.args.bytes.now
    c.self.invariant.0 c.self.invariant.1 c.self.view_is c.first_outside-kept.result
    c.first_set-set.result c.first_outside-kept.ensures c.first_set-set.ensures c.in-Some-None.kept
    c.in-Some-None.is-0 c.in-Some-None.is-1

pub returns-in-None-default : goal.returns-in-None-default
returns-in-None-default c =
    only_set_is c.self.inside.refs.now c.self.inside.changes c.args.self.now c.args.bytes.now
    c.self.invariant.0 c.self.invariant.1 c.self.view_is c.first_outside-kept.result
    c.first_set-set.result c.first_outside-kept.ensures c.first_set-set.ensures c.in-None-default.is-0
